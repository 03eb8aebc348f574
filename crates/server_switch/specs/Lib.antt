pub mod CountedSwitch

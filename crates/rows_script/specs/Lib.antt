pub mod RefusedScripts

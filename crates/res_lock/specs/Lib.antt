pub mod HolderApart

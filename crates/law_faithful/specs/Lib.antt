pub mod Faith

pub mod RaftTasks

pub mod QueuePromise

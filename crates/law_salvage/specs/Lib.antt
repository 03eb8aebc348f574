pub mod SalvagePromise

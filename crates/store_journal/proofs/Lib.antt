mod PlacedSoFar
mod RecordsSoFar
mod Grown
mod CallsKept
mod StoreCalls
mod StoreReads

pub mod RecordsRead
pub mod RecordByRecord
pub mod Appended
pub mod CallRecords

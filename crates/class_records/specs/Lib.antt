pub mod ClassRecords

pub mod ReturnedNumbers

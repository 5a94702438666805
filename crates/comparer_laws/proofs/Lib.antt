pub mod Arranged

pub mod Fips180

pub mod Fips202

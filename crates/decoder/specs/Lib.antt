pub mod Decoding

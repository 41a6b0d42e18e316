pub mod Vowels
pub mod VowelLaws

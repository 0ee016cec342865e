pub mod WordsGiven

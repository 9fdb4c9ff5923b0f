pub mod IsLed

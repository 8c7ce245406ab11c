pub mod Restart

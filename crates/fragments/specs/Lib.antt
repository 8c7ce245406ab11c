pub mod FragmentMeets

pub mod PartsBack
pub mod RecordsBack

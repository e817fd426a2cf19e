pub mod Remark

pub mod Requests
pub mod Courses
pub mod Leaves
pub mod Serves
pub mod Looks
pub mod Uniform
pub mod Known

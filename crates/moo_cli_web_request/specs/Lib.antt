-- What a browser's request asks for.
pub mod Requests

pub mod BrowserLines

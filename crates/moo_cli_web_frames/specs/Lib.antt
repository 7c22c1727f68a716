-- The bytes of a connection within the frames of a WebSocket.
pub mod Frames
pub mod Channels
pub mod Silence
-- What a look at a silent side does.
pub mod Tending

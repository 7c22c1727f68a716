-- The bytes that wait for a socket.
pub mod Waiting
-- The frames of a WebSocket.
pub mod Framing
-- The input and the output of the sockets of connections.
pub mod Coming
pub mod Sending
-- The bytes that a read brings.
pub mod Reading
-- The listener for browsers.
pub mod Browsers

use Rattle.moo_cli_telnet.proofs.Streams.{text_of}
use Rattle.moo_cli_telnet.proofs.laws.text_of_streams.Goals as goal

pub returns : goal.returns
returns c = λ bytes text s. text_of s

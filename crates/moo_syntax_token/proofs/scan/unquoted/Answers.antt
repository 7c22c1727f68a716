use Rattle.moo_syntax_token.proofs.Parts.{string_of_front}
use Rattle.moo_syntax_token.proofs.scan.unquoted.Goals as goal

pub from_slice-requires : goal.from_slice-requires
from_slice-requires c = string_of_front _ _ c.requires

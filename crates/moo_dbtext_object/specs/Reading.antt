-- Reading a value line by line: the reader's state between two lines, and the effect of each line.
use Rattle.std.specs.Prelude.{ℕ, ℤ, pos, negsuc, ◌==◌, zero, suc, ◌-◌, ◌&&◌, nat_lt, nat_le, ◌≡◌, Bool, true, false, List, [], ◌∷◌, ◌++◌, map, reverse, length, Option, Some, None, option_map, is_some, Result, Ok, Err, if◌then◌else◌}
use Rattle.moo_value.specs.declared.error_code.ErrorCode.{ErrorCode}
use Rattle.moo_value.specs.declared.value.Value.{Value}
use Rattle.moo_value.specs.Size.{weight, depth, weight_limit, depth_limit}
use Rattle.moo_value.specs.Tree.{Tree, integer, object, error, string, list_of}
use Rattle.moo_value.specs.TreeCode.{error_numbered}
use Rattle.moo_value.specs.View.{tree, trees}
use Rattle.moo_dbtext_object.specs.Lines.{Line, ◌>>=◌, Sizes, within, number_of, count_of, small_of, text_of}
use Rattle.moo_dbtext_object.specs.declared.fault.LineFault.{LineFault}
use Rattle.moo_dbtext_object.specs.declared.fault.LineFault.TheVariants.{FloatValue, BadType}
use Rattle.moo_dbtext_object.specs.declared.value_reader.Expected.{Expected}
use Rattle.moo_dbtext_object.specs.declared.value_reader.Expected.TheVariants as expected
use Rattle.moo_dbtext_object.specs.declared.value_reader.OpenList.{OpenList}
use Rattle.moo_dbtext_object.specs.declared.value_reader.ValueReader.{ValueReader}

-- a list that is being read: its values so far, and how many follow the one that is being read
abbrev pub Opened : Type 0
Opened = List Tree × ℕ

-- A value that is being read: what the next line holds, the weight that is left for the rest of the value, and the
-- lists around it, the innermost first.
pub record Partial : Type 0 where
  pub expected : Expected
  pub room : ℕ
  pub lists : List Opened

abbrev pub opened_of : OpenList → Opened
opened_of o = (trees o.items.items, o.left)

abbrev pub innermost_first : List OpenList → List Opened
innermost_first ls = reverse (map opened_of ls)

abbrev pub partial_of : ValueReader → Partial
partial_of r = record { expected = r.expected; room = r.room; lists = innermost_first r.lists.items }

-- the state at the start of a value
abbrev pub opening : ℕ → List Opened → Partial
opening room ls = record { expected = expected.Type; room = room; lists = ls }

-- the greatest weight of a value, less 1
abbrev pub full_room : ℕ
full_room = 999999

abbrev pub begun : Partial
begun = opening full_room []

abbrev pub is_within : Tree → Bool
is_within t = nat_le (weight t) weight_limit && nat_le (depth t) depth_limit

-- the list of these values
abbrev pub closed : Sizes → List Tree → Result Tree LineFault
closed s ts = within s (is_within (list_of ts)) (list_of ts)

-- After a whole value: it may end the lists around it, and the outermost is the answer.
unfoldable pub after_value : Sizes → Tree → ℕ → List Opened → Result (Partial × Option Tree) LineFault
after_value s t room [] = Ok (begun, Some t)
after_value s t room ((items, zero) ∷ ls) = closed s (items ++ t ∷ []) >>= λ l. after_value s l room ls
after_value s t room ((items, suc n) ∷ ls) = Ok (opening room ((items ++ t ∷ [], n) ∷ ls), None)

abbrev pub after_count : Sizes → ℕ → ℕ → List Opened → Result (Partial × Option Tree) LineFault
after_count s zero room ls = closed s [] >>= λ l. after_value s l room ls
after_count s (suc n) room ls = Ok (opening room (([], n) ∷ ls), None)

-- what follows the line of a value's type
abbrev pub expected_after : ℤ → Result Expected LineFault
expected_after (pos n) =
    if n == 0 then Ok expected.Int else
    (if n == 1 then Ok expected.Obj else
    (if n == 2 then Ok expected.Str else
    (if n == 3 then Ok expected.Error else
    (if n == 4 then Ok expected.Count else
    (if n == 9 then Err FloatValue else Err BadType)))))
expected_after (negsuc n) = Err BadType

-- A list may begin inside fewer lists than the nesting limit.
abbrev pub may_stand : Expected → List Opened → Bool
may_stand expected.Type ls = true
may_stand expected.Int ls = true
may_stand expected.Obj ls = true
may_stand expected.Str ls = true
may_stand expected.Error ls = true
may_stand expected.Count ls = nat_lt (length ls) depth_limit

unfoldable pub type_of : Line → Result Expected LineFault
type_of line = number_of line >>= expected_after

unfoldable pub error_of : Line → Result ErrorCode LineFault
error_of line = small_of 15 line >>= λ n. Ok (error_numbered n)

-- what is left of the weight
abbrev pub take_room : Sizes → ℕ → ℕ → Result ℕ LineFault
take_room s n room = within s (nat_le n room) (room - n)

unfoldable pub value_step : Sizes → Expected → Partial → Line → Result (Partial × Option Tree) LineFault
value_step s expected.Type p line = type_of line >>= λ e. within s (may_stand e p.lists) (record p { expected = e }, None)
value_step s expected.Int p line = number_of line >>= λ z. after_value s (integer z) p.room p.lists
value_step s expected.Obj p line = number_of line >>= λ z. after_value s (object z) p.room p.lists
value_step s expected.Error p line = error_of line >>= λ e. after_value s (error e) p.room p.lists
value_step s expected.Str p line = text_of s line >>= λ t. take_room s (length t) p.room >>= λ room. after_value s (string t) room p.lists
value_step s expected.Count p line = count_of line >>= λ n. take_room s n p.room >>= λ room. after_count s n room p.lists

-- the next line of a value
abbrev pub value_line : Sizes → Partial → Line → Result (Partial × Option Tree) LineFault
value_line s p line = value_step s p.expected p line

-- what a line gives: the value that was stored if the line ends one, or nothing
abbrev pub ended_by : Bool → Option Value → Option Tree
ended_by true whole = option_map tree whole
ended_by false whole = None

-- If a line ends a value, one is stored. If not, what was there stays.
abbrev pub IsPutDown : Bool → Option Value → Option Value → Type 0
IsPutDown true old new = is_some new ≡ true
IsPutDown false old new = new ≡ old

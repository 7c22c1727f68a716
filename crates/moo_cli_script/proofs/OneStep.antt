-- A line asks for one thing at most.
use Rattle.std.proofs.Common.{◌≡◌, ◌≢◌, ℕ, ◌+◌, ◌*◌, Bool, true, false, List, [], ◌∷◌, ◌++◌, codes, get_or, length, drop, All, refl, sym, ap, subst, ◌∙◌, arith, append-nil}
use Rattle.std.proofs.lemmas.List.Elements.{All-drop, All-head}
use Rattle.std.proofs.Math.Seq.{drop-append_seam}
use Rattle.std.specs.Char.{digit_value}
use Rattle.std.specs.Str.Parse.{digits_value}
use Rattle.moo_cli_script.specs.ScriptLines.{opening, typing, sending, hanging_up, moment, flushing, failing, reopening, crashing, showing, AsksOneStep, IsNumber, IsAddressed, IsHex, no_digits, two_digits, most_connection, done_word}
use Rattle.moo_cli_script.proofs.Splits.{digits_no_blank, one_split}

cancel : (xs ys zs : List ℕ) → xs ++ ys ≡ xs ++ zs → ys ≡ zs
cancel xs ys zs e = sym (drop-append_seam xs ys) ∙ ap (drop (length xs)) e ∙ drop-append_seam xs zs

one_number : (most : ℕ) (xs ys : List ℕ) (n m : ℕ) → xs ≡ ys → IsNumber most xs n → IsNumber most ys m → n ≡ m
one_number most xs ys n m e a b = a.is ∙ ap (digits_value 10) e ∙ sym b.is

one_hex : {xs bs cs : List ℕ} → IsHex xs bs → IsHex xs cs → bs ≡ cs
one_hex no_digits no_digits = refl
one_hex (two_digits a b high low more) (two_digits _ _ _ _ rest) = ap (λ r. (digit_value a * 16 + digit_value b) ∷ r) (one_hex more rest)

pub one_address : {xs ys : List ℕ} {c d : ℕ} {text other : List ℕ} → xs ≡ ys → IsAddressed xs c text → IsAddressed ys d other → (c ≡ d) × (text ≡ other)
one_address e a b =
    let split = one_split a.digits _ b.digits _ (digits_no_blank a.digits a.number.numeral.1) (digits_no_blank b.digits b.number.numeral.1) (sym a.whole ∙ e ∙ b.whole) in
    (one_number most_connection a.digits b.digits _ _ split.0 a.number b.number, split.1)

no_done : (xs ys : List ℕ) → All (λ b. b ≢ 32) ys → xs ++ codes " done" ≡ ys ++ [] → ⊥
no_done xs ys h e =
    All-head (λ b. b ≢ 32) 32 (codes "done") (subst (All (λ b. b ≢ 32)) (drop-append_seam xs (codes " done")) (All-drop (λ b. b ≢ 32) (length xs) (xs ++ codes " done") (subst (All (λ b. b ≢ 32)) (sym (e ∙ append-nil ys)) h))) refl

one_failure : (xs ys : List ℕ) (effect other : Bool) → All (λ b. b ≢ 32) xs → All (λ b. b ≢ 32) ys → xs ++ done_word effect ≡ ys ++ done_word other → (xs ≡ ys) × (effect ≡ other)
one_failure xs ys true true h k e = ((one_split xs (codes "done") ys (codes "done") h k e).0, refl)
one_failure xs ys true false h k e = absurd (no_done xs ys k e)
one_failure xs ys false true h k e = absurd (no_done ys xs h (sym e))
one_failure xs ys false false h k e = (sym (append-nil xs) ∙ e ∙ append-nil ys, refl)

-- the words differ in their first two bytes
abbrev key : List ℕ → ℕ
key text = get_or text 0 0 * 256 + get_or text 1 0

pub one_step : AsksOneStep
one_step line (opening c) (opening d) a b = ap opening (one_number _ a.0 b.0 c d (cancel (codes "open ") a.0 b.0 (sym a.1 ∙ b.1)) a.2 b.2)
one_step line (opening c) (typing oc otext) a b = absurd (omega (arith, ap key (sym a.1 ∙ b.1)))
one_step line (opening c) (sending oc obytes) a b = absurd (omega (arith, ap key (sym a.1 ∙ b.1)))
one_step line (opening c) (hanging_up oc) a b = absurd (omega (arith, ap key (sym a.1 ∙ b.1)))
one_step line (opening c) (moment ot) a b = absurd (omega (arith, ap key (sym a.1 ∙ b.1)))
one_step line (opening c) flushing a b = absurd (omega (arith, ap key (sym a.1 ∙ b.1)))
one_step line (opening c) (failing ok oeffect) a b = absurd (omega (arith, ap key (sym a.1 ∙ b.1)))
one_step line (opening c) reopening a b = absurd (omega (arith, ap key (sym a.1 ∙ b.1)))
one_step line (opening c) (crashing oi) a b = absurd (omega (arith, ap key (sym a.1 ∙ b.1)))
one_step line (opening c) showing a b = absurd (omega (arith, ap key (sym a.1 ∙ b.1)))
one_step line (typing c text) (opening oc) a b = absurd (omega (arith, ap key (sym a.1 ∙ b.1)))
one_step line (typing c said) (typing d other) a b =
    let same = one_address (cancel (codes "line ") a.0 b.0 (sym a.1 ∙ b.1)) a.2 b.2 in
    ap (λ n. typing n said) same.0 ∙ ap (typing d) same.1
one_step line (typing c text) (sending oc obytes) a b = absurd (omega (arith, ap key (sym a.1 ∙ b.1)))
one_step line (typing c text) (hanging_up oc) a b = absurd (omega (arith, ap key (sym a.1 ∙ b.1)))
one_step line (typing c text) (moment ot) a b = absurd (omega (arith, ap key (sym a.1 ∙ b.1)))
one_step line (typing c text) flushing a b = absurd (omega (arith, ap key (sym a.1 ∙ b.1)))
one_step line (typing c text) (failing ok oeffect) a b = absurd (omega (arith, ap key (sym a.1 ∙ b.1)))
one_step line (typing c text) reopening a b = absurd (omega (arith, ap key (sym a.1 ∙ b.1)))
one_step line (typing c text) (crashing oi) a b = absurd (omega (arith, ap key (sym a.1 ∙ b.1)))
one_step line (typing c text) showing a b = absurd (omega (arith, ap key (sym a.1 ∙ b.1)))
one_step line (sending c bytes) (opening oc) a b = absurd (omega (arith, ap key (sym a.1 ∙ b.1)))
one_step line (sending c bytes) (typing oc otext) a b = absurd (omega (arith, ap key (sym a.1 ∙ b.1)))
one_step line (sending c bytes) (sending d others) a b =
    let same = one_address (cancel (codes "bytes ") a.0 b.0 (sym a.1 ∙ b.1)) a.2.1 b.2.1 in
    ap (λ n. sending n bytes) same.0 ∙ ap (sending d) (one_hex a.2.2 (subst (λ (ds : List ℕ). IsHex ds others) (sym same.1) b.2.2))
one_step line (sending c bytes) (hanging_up oc) a b = absurd (omega (arith, ap key (sym a.1 ∙ b.1)))
one_step line (sending c bytes) (moment ot) a b = absurd (omega (arith, ap key (sym a.1 ∙ b.1)))
one_step line (sending c bytes) flushing a b = absurd (omega (arith, ap key (sym a.1 ∙ b.1)))
one_step line (sending c bytes) (failing ok oeffect) a b = absurd (omega (arith, ap key (sym a.1 ∙ b.1)))
one_step line (sending c bytes) reopening a b = absurd (omega (arith, ap key (sym a.1 ∙ b.1)))
one_step line (sending c bytes) (crashing oi) a b = absurd (omega (arith, ap key (sym a.1 ∙ b.1)))
one_step line (sending c bytes) showing a b = absurd (omega (arith, ap key (sym a.1 ∙ b.1)))
one_step line (hanging_up c) (opening oc) a b = absurd (omega (arith, ap key (sym a.1 ∙ b.1)))
one_step line (hanging_up c) (typing oc otext) a b = absurd (omega (arith, ap key (sym a.1 ∙ b.1)))
one_step line (hanging_up c) (sending oc obytes) a b = absurd (omega (arith, ap key (sym a.1 ∙ b.1)))
one_step line (hanging_up c) (hanging_up d) a b = ap hanging_up (one_number _ a.0 b.0 c d (cancel (codes "hangup ") a.0 b.0 (sym a.1 ∙ b.1)) a.2 b.2)
one_step line (hanging_up c) (moment ot) a b = absurd (omega (arith, ap key (sym a.1 ∙ b.1)))
one_step line (hanging_up c) flushing a b = absurd (omega (arith, ap key (sym a.1 ∙ b.1)))
one_step line (hanging_up c) (failing ok oeffect) a b = absurd (omega (arith, ap key (sym a.1 ∙ b.1)))
one_step line (hanging_up c) reopening a b = absurd (omega (arith, ap key (sym a.1 ∙ b.1)))
one_step line (hanging_up c) (crashing oi) a b = absurd (omega (arith, ap key (sym a.1 ∙ b.1)))
one_step line (hanging_up c) showing a b = absurd (omega (arith, ap key (sym a.1 ∙ b.1)))
one_step line (moment t) (opening oc) a b = absurd (omega (arith, ap key (sym a.1 ∙ b.1)))
one_step line (moment t) (typing oc otext) a b = absurd (omega (arith, ap key (sym a.1 ∙ b.1)))
one_step line (moment t) (sending oc obytes) a b = absurd (omega (arith, ap key (sym a.1 ∙ b.1)))
one_step line (moment t) (hanging_up oc) a b = absurd (omega (arith, ap key (sym a.1 ∙ b.1)))
one_step line (moment c) (moment d) a b = ap moment (one_number _ a.0 b.0 c d (cancel (codes "moment ") a.0 b.0 (sym a.1 ∙ b.1)) a.2 b.2)
one_step line (moment t) flushing a b = absurd (omega (arith, ap key (sym a.1 ∙ b.1)))
one_step line (moment t) (failing ok oeffect) a b = absurd (omega (arith, ap key (sym a.1 ∙ b.1)))
one_step line (moment t) reopening a b = absurd (omega (arith, ap key (sym a.1 ∙ b.1)))
one_step line (moment t) (crashing oi) a b = absurd (omega (arith, ap key (sym a.1 ∙ b.1)))
one_step line (moment t) showing a b = absurd (omega (arith, ap key (sym a.1 ∙ b.1)))
one_step line flushing (opening oc) a b = absurd (omega (arith, ap key (sym a.1 ∙ b.1)))
one_step line flushing (typing oc otext) a b = absurd (omega (arith, ap key (sym a.1 ∙ b.1)))
one_step line flushing (sending oc obytes) a b = absurd (omega (arith, ap key (sym a.1 ∙ b.1)))
one_step line flushing (hanging_up oc) a b = absurd (omega (arith, ap key (sym a.1 ∙ b.1)))
one_step line flushing (moment ot) a b = absurd (omega (arith, ap key (sym a.1 ∙ b.1)))
one_step line flushing flushing a b = refl
one_step line flushing (failing ok oeffect) a b = absurd (omega (arith, ap key (sym a.1 ∙ b.1)))
one_step line flushing reopening a b = absurd (omega (arith, ap key (sym a.1 ∙ b.1)))
one_step line flushing (crashing oi) a b = absurd (omega (arith, ap key (sym a.1 ∙ b.1)))
one_step line flushing showing a b = absurd (omega (arith, ap key (sym a.1 ∙ b.1)))
one_step line (failing k effect) (opening oc) a b = absurd (omega (arith, ap key (sym a.1 ∙ b.1)))
one_step line (failing k effect) (typing oc otext) a b = absurd (omega (arith, ap key (sym a.1 ∙ b.1)))
one_step line (failing k effect) (sending oc obytes) a b = absurd (omega (arith, ap key (sym a.1 ∙ b.1)))
one_step line (failing k effect) (hanging_up oc) a b = absurd (omega (arith, ap key (sym a.1 ∙ b.1)))
one_step line (failing k effect) (moment ot) a b = absurd (omega (arith, ap key (sym a.1 ∙ b.1)))
one_step line (failing k effect) flushing a b = absurd (omega (arith, ap key (sym a.1 ∙ b.1)))
one_step line (failing k effect) (failing m other) a b =
    let same = one_failure a.2.0 b.2.0 effect other (digits_no_blank a.2.0 a.2.2.numeral.1) (digits_no_blank b.2.0 b.2.2.numeral.1) (sym a.2.1 ∙ cancel (codes "fail ") a.0 b.0 (sym a.1 ∙ b.1) ∙ b.2.1) in
    ap (λ n. failing n effect) (one_number _ a.2.0 b.2.0 k m same.0 a.2.2 b.2.2) ∙ ap (failing m) same.1
one_step line (failing k effect) reopening a b = absurd (omega (arith, ap key (sym a.1 ∙ b.1)))
one_step line (failing k effect) (crashing oi) a b = absurd (omega (arith, ap key (sym a.1 ∙ b.1)))
one_step line (failing k effect) showing a b = absurd (omega (arith, ap key (sym a.1 ∙ b.1)))
one_step line reopening (opening oc) a b = absurd (omega (arith, ap key (sym a.1 ∙ b.1)))
one_step line reopening (typing oc otext) a b = absurd (omega (arith, ap key (sym a.1 ∙ b.1)))
one_step line reopening (sending oc obytes) a b = absurd (omega (arith, ap key (sym a.1 ∙ b.1)))
one_step line reopening (hanging_up oc) a b = absurd (omega (arith, ap key (sym a.1 ∙ b.1)))
one_step line reopening (moment ot) a b = absurd (omega (arith, ap key (sym a.1 ∙ b.1)))
one_step line reopening flushing a b = absurd (omega (arith, ap key (sym a.1 ∙ b.1)))
one_step line reopening (failing ok oeffect) a b = absurd (omega (arith, ap key (sym a.1 ∙ b.1)))
one_step line reopening reopening a b = refl
one_step line reopening (crashing oi) a b = absurd (omega (arith, ap key (sym a.1 ∙ b.1)))
one_step line reopening showing a b = absurd (omega (arith, ap key (sym a.1 ∙ b.1)))
one_step line (crashing i) (opening oc) a b = absurd (omega (arith, ap key (sym a.1 ∙ b.1)))
one_step line (crashing i) (typing oc otext) a b = absurd (omega (arith, ap key (sym a.1 ∙ b.1)))
one_step line (crashing i) (sending oc obytes) a b = absurd (omega (arith, ap key (sym a.1 ∙ b.1)))
one_step line (crashing i) (hanging_up oc) a b = absurd (omega (arith, ap key (sym a.1 ∙ b.1)))
one_step line (crashing i) (moment ot) a b = absurd (omega (arith, ap key (sym a.1 ∙ b.1)))
one_step line (crashing i) flushing a b = absurd (omega (arith, ap key (sym a.1 ∙ b.1)))
one_step line (crashing i) (failing ok oeffect) a b = absurd (omega (arith, ap key (sym a.1 ∙ b.1)))
one_step line (crashing i) reopening a b = absurd (omega (arith, ap key (sym a.1 ∙ b.1)))
one_step line (crashing c) (crashing d) a b = ap crashing (one_number _ a.0 b.0 c d (cancel (codes "crash ") a.0 b.0 (sym a.1 ∙ b.1)) a.2 b.2)
one_step line (crashing i) showing a b = absurd (omega (arith, ap key (sym a.1 ∙ b.1)))
one_step line showing (opening oc) a b = absurd (omega (arith, ap key (sym a.1 ∙ b.1)))
one_step line showing (typing oc otext) a b = absurd (omega (arith, ap key (sym a.1 ∙ b.1)))
one_step line showing (sending oc obytes) a b = absurd (omega (arith, ap key (sym a.1 ∙ b.1)))
one_step line showing (hanging_up oc) a b = absurd (omega (arith, ap key (sym a.1 ∙ b.1)))
one_step line showing (moment ot) a b = absurd (omega (arith, ap key (sym a.1 ∙ b.1)))
one_step line showing flushing a b = absurd (omega (arith, ap key (sym a.1 ∙ b.1)))
one_step line showing (failing ok oeffect) a b = absurd (omega (arith, ap key (sym a.1 ∙ b.1)))
one_step line showing reopening a b = absurd (omega (arith, ap key (sym a.1 ∙ b.1)))
one_step line showing (crashing oi) a b = absurd (omega (arith, ap key (sym a.1 ∙ b.1)))
one_step line showing showing a b = refl

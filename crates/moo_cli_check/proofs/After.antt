-- The state of a reader of refused programs after the bytes that it has taken.
use Rattle.std.proofs.Common.{◌≡◌, ℕ, Bool, true, false, eqb, eq-eqb, ◌+◌, ◌-◌, ◌≤◌, List, [], ◌∷◌, ◌++◌, length, Option, Some, None, Result, Ok, ◌⊎◌, inl, inr, refl, sym, ap, subst, ◌∙◌, arith}
use Rattle.std.proofs.lemmas.Bool.{eqb-true}
use Rattle.moo_syntax_ast.specs.Tree.{Block}
use Rattle.moo_syntax_grammar.specs.declared.names.Names.TheVariants.{Any}
use Rattle.moo_syntax_grammar.specs.Texts.{IsParsed}
use Rattle.moo_dbtext_object.specs.Lines.{Line, limited}
use Rattle.moo_dbtext_record.specs.Sparing.{AreAlike, AreAlikeTaken, IsAt}
use Rattle.moo_dbtext_record.specs.Programs.{entry_at}
use Rattle.moo_dbtext_record.specs.declared.fault.DbFault.{DbFault}
use Rattle.moo_dbtext_record.specs.DumpReading.{Progress, verb_read}
use Rattle.moo_dbtext_record.specs.Answer.{IsWholeLine, Told, Taken, taken_of, taken_on, begin, HasTaken, IsGoing, HasNoEnd}
use Rattle.moo_dbtext_record.specs.declared.record_reader.RecordReader.{RecordReader}
use Rattle.moo_dbtext_record.proofs.Standing.{taken_ends}
use Rattle.moo_dbtext_record.proofs.Sparing.{reads_alike, alike_self, alike_then, at_on}
use Rattle.moo_dbtext_read.specs.Faults.{told_kind}
use Rattle.moo_dbtext_read.specs.Reading.{ended_between, verb_at}
use Rattle.moo_dbtext_read.proofs.After.{taken_going, taken_between, part_sources, line_passes, still_sources, program_stands, IsAtDot}
use Rattle.moo_cli_check.specs.Survey.{IsRefusedProgram, AreRefusedBetween, IsToldOf}
use Rattle.moo_cli_check.specs.Reading.{IsAfter, IsNoted}
use Rattle.moo_cli_check.specs.declared.survey.Survey.{Survey}
use Rattle.moo_cli_check.proofs.Noted.{known_kind, between_on, between_later, between_push, told_front, told_last}

abbrev IsProgram : List Line → Type 0
IsProgram source = (b : Block) × IsParsed Any source b

pub after_nothing : (r : Survey) → IsGoing r.records → HasTaken r.records [] → r.faults.items ≡ [] → IsAfter r []
unfolding taken_on
after_nothing r going taken none = record {
  going = going;
  at = record { state = begin; leads = refl; alike = subst (AreAlikeTaken begin) same (alike_self begin) };
  refused = subst (λ (es : List DbFault). AreRefusedBetween [] 0 0 es) (sym none) (omega arith);
  others = λ o v source e. absurd cc;
}
  where
    same : begin ≡ taken_of r.records
    same = let ok : Taken → Result Taken Told = λ x. Ok x in let e : ok begin ≡ ok (taken_of r.records) = taken_going r.records [] going taken in cc

-- nothing is noted of a piece that ends no program
still : (old new : Survey) (bytes piece : List ℕ) (h : IsAfter old bytes) → IsGoing new.records → (at : IsAt new.records (bytes ++ piece)) → h.at.state.lines ≤ at.state.lines
    → ((o v : ℕ) → entry_at at.state.progress.text.programs o v ≡ entry_at h.at.state.progress.text.programs o v) → new.faults ≡ old.faults → IsAfter new (bytes ++ piece)
still old new bytes piece h on at le same kept =
    let es : new.faults.items ≡ old.faults.items = ap (λ x. x.items) kept in
    record {
      going = on;
      at = at;
      refused = subst (λ (l : List DbFault). AreRefusedBetween (bytes ++ piece) 0 at.state.lines l) (sym es)
          (between_later (bytes ++ piece) 0 h.at.state.lines at.state.lines old.faults.items (between_on bytes piece 0 h.at.state.lines old.faults.items h.refused) le);
      others = λ o v source e. subst (λ (l : List DbFault). IsToldOf o v l ⊎ IsProgram source) (sym es) (h.others o v source (sym (same o v) ∙ e));
    }

pub after_part : (old new : Survey) (bytes part : List ℕ) → HasNoEnd part → IsAfter old bytes → IsGoing new.records → taken_on limited (taken_of old.records) part ≡ Ok (taken_of new.records) → new.faults ≡ old.faults → IsAfter new (bytes ++ part)
after_part old new bytes part clean h on e kept =
    let at = at_on old.records new.records bytes part h.at e in
    let same = part_sources bytes part h.at.state at.state clean h.at.leads at.leads in
    let more = taken_ends limited part h.at.state at.state (taken_between bytes part h.at.state at.state h.at.leads at.leads) in
    still old new bytes part h on at (omega (arith, more)) (λ o v. ap (λ (p : Progress). entry_at p.text.programs o v) same) kept

ended_alike : (s t l m : Progress) → AreAlike s l → AreAlike t m → ended_between (verb_read s.section s) (verb_read t.section t) ≡ ended_between (verb_read l.section l) (verb_read m.section m)
ended_alike s t l m h k = ap (λ (x : Option (ℕ × ℕ)). ended_between x (verb_read t.section t)) (reads_alike s l h) ∙ ap (ended_between (verb_read l.section l)) (reads_alike t m k)

pub after_still : (old new : Survey) (bytes line : List ℕ) → IsWholeLine line → IsAfter old bytes → IsGoing new.records → taken_on limited (taken_of old.records) line ≡ Ok (taken_of new.records) → ended_between (verb_at old.records) (verb_at new.records) ≡ None → new.faults ≡ old.faults → IsAfter new (bytes ++ line)
after_still old new bytes line whole h on e none kept =
    let at = at_on old.records new.records bytes line h.at e in
    let s = h.at.state in
    let t = at.state in
    let p = line_passes bytes line s t whole h.at.leads at.leads in
    let more = p.past.lines in
    let none_ended = ended_alike s.progress t.progress (taken_of old.records).progress (taken_of new.records).progress h.at.alike.progress at.alike.progress ∙ none in
    still old new bytes line h on at (omega (arith, more)) (still_sources s t bytes line p none_ended) kept

same_or_apart : (i o j v : ℕ) → ((i ≡ o) × (j ≡ v)) ⊎ (i ≡ o → j ≡ v → ⊥)
same_or_apart i o j v = decide (eqb i o) refl (eqb j v) refl
  where
    decide : (a : Bool) → eqb i o ≡ a → (b : Bool) → eqb j v ≡ b → ((i ≡ o) × (j ≡ v)) ⊎ (i ≡ o → j ≡ v → ⊥)
    decide true a true b = inl (eqb-true i o a, eqb-true j v b)
    decide true a false b = inr (λ e f. let g = eq-eqb j v f in cc)
    decide false a b is = inr (λ e f. let g = eq-eqb i o e in cc)

-- ---- the dot that ends a program

module _ (old new : Survey) (middle : RecordReader) (bytes line : List ℕ) (o v : ℕ) (h : IsAfter old bytes) (d : IsAtDot old.records middle bytes line h.at o v) where
  abbrev pub source : List Line
  source = h.at.state.progress.source

  lines : d.after.state.lines ≡ h.at.state.lines + 1
  lines = d.passes.past.lines

  -- each other verb has what it had, and this one what is said of its source
  entries : (es : List DbFault) → ((i j : ℕ) (x : List Line) → IsToldOf i j old.faults.items ⊎ IsProgram x → IsToldOf i j es ⊎ IsProgram x) → IsToldOf o v es ⊎ IsProgram source
      → (i j : ℕ) (x : List Line) → entry_at d.after.state.progress.text.programs i j ≡ Some x → IsToldOf i j es ⊎ IsProgram x
  entries es grows this i j x e = elim (same_or_apart i o j v) [
    | inl is ↦
        let there : entry_at d.after.state.progress.text.programs o v ≡ Some x = ap (λ (k : ℕ). entry_at d.after.state.progress.text.programs k v) (sym is.0) ∙ ap (entry_at d.after.state.progress.text.programs i) (sym is.1) ∙ e in
        let some : List Line → Option (List Line) = λ y. Some y in
        let same : some source ≡ some x = sym d.there ∙ there in
        subst (λ (k : ℕ). IsToldOf k j es ⊎ IsProgram x) (sym is.0) (subst (λ (k : ℕ). IsToldOf o k es ⊎ IsProgram x) (sym is.1) (subst (λ (y : List Line). IsToldOf o v es ⊎ IsProgram y) (let f : source ≡ x = cc in f) this))
    | inr apart ↦ grows i j x (h.others i j x (sym (d.ends.ended.others i j (λ a b. apart (a ∙ d.ends.object) (b ∙ d.ends.verb))) ∙ e))
  ]

  pub after_ended : IsGoing new.records → AreAlikeTaken (taken_of middle) (taken_of new.records) → IsNoted old.faults.items new.faults.items (taken_of middle).lines o v source → IsAfter new (bytes ++ line)
  after_ended on dropped (inl sound) = record {
    going = on;
    at = record { state = d.after.state; leads = d.after.leads; alike = alike_then d.after.state (taken_of middle) (taken_of new.records) d.after.alike dropped };
    refused = subst (λ (l : List DbFault). AreRefusedBetween (bytes ++ line) 0 d.after.state.lines l) (sym sound.0)
        (between_later (bytes ++ line) 0 h.at.state.lines d.after.state.lines old.faults.items (between_on bytes line 0 h.at.state.lines old.faults.items h.refused) (omega (arith, lines)));
    others = entries new.faults.items (λ i j x k. subst (λ (l : List DbFault). IsToldOf i j l ⊎ IsProgram x) (sym sound.0) k) (inr sound.1);
  }
  after_ended on dropped (inr noted) =
      let e = noted.0 in
      let fault = noted.3 in
      let stands = program_stands h.at.state d.after.state bytes line d.passes o v e.line h.at.leads d.after.leads d.ends (fault.line ∙ ap (λ (n : ℕ). n - length source - 1) (sym d.after.alike.lines)) in
      let known = known_kind o v e fault.at fault.fault (told_kind fault.fault) refl fault.kind noted.2 in
      let p : IsRefusedProgram (bytes ++ line) e = record {
        object = o;
        verb = v;
        fault = record { line = fault.at; kind = known.0 };
        told = known.2;
        source = source;
        place = stands.place;
        blamed = record { kind = fault.fault; told = known.1; blames = fault.blames };
      } in
      let number = stands.place.number in
      let dot : e.line + length source + 1 ≡ d.after.state.lines = omega (arith, fault.line, number, d.after.alike.lines) in
      record {
        going = on;
        at = record { state = d.after.state; leads = d.after.leads; alike = alike_then d.after.state (taken_of middle) (taken_of new.records) d.after.alike dropped };
        refused = subst (λ (l : List DbFault). AreRefusedBetween (bytes ++ line) 0 d.after.state.lines l) (sym noted.1)
            (between_push (bytes ++ line) 0 h.at.state.lines d.after.state.lines old.faults.items e (between_on bytes line 0 h.at.state.lines old.faults.items h.refused) p (omega (arith, dot, lines)) (omega (arith, dot)));
        others = entries new.faults.items (λ i j x k. subst (λ (l : List DbFault). IsToldOf i j l ⊎ IsProgram x) (sym noted.1) (elim k [ inl t ↦ inl (told_front i j old.faults.items (e ∷ []) t) | inr b ↦ inr b ]))
            (inl (subst (λ (l : List DbFault). IsToldOf o v l) (sym noted.1) (told_last o v old.faults.items e (record { line = fault.at; kind = known.0 }, known.2))));
      }

-- A text that was read is spelled by its bytes.
use Rattle.std.proofs.Common.{◌≡◌, ℕ, pos, ◌+◌, Bool, true, false, cond, eqb, ltb, List, [], ◌∷◌, ◌++◌, length, Result, Ok, Err, refl, sym, ap, subst, ◌∙◌, append_assoc, arith}
use Rattle.std.specs.List.{AllByRecursion}
use Rattle.std.proofs.lemmas.Bool.{eqb-true, ltb-true}
use Rattle.std.proofs.lemmas.List.{append-nil, length-append}
use Rattle.std.proofs.lemmas.List.Elements.{All-nil}
use Rattle.moo_value.specs.Tree.{IsText, IsTextByte}
use Rattle.moo_dbtext_object.specs.declared.fault.LineFault.{LineFault}
use Rattle.moo_dbtext_object.specs.declared.fault.LineFault.TheVariants.{Truncated}
use Rattle.moo_dbtext_object.specs.Lines.{Line, Sizes, unlimited, limited, IsStringOf, IsCountOf, unlines}
use Rattle.moo_dbtext_object.proofs.LineLaws.{chosen_ok}
use Rattle.moo_dbtext_object.proofs.ValueFound.{flat_map_push}
use Rattle.moo_dbtext_object.proofs.ObjectDraft.{fresh_is}
use Rattle.moo_dbtext_record.specs.Programs.{Program, IsSourceLine, IsProgramText}
use Rattle.moo_dbtext_record.specs.Texts.{Text, Slack, text_lines, tasks_lines, connections_lines, MayHave, IsWritten, Spells}
use Rattle.moo_dbtext_record.specs.DumpReading.{Progress, dump_step, end_of, ended, start}
use Rattle.moo_dbtext_record.specs.Answer.{Told, Taken, told, and_then, line_ended, taken_on, finished, finished_with, begin, answer_to}
use Rattle.moo_dbtext_record.specs.declared.dump.Form.{Form}
use Rattle.moo_dbtext_record.specs.declared.dump_reader.Section.{Section}
use Rattle.moo_dbtext_record.specs.declared.dump_reader.Section.TheVariants as section
use Rattle.moo_dbtext_record.proofs.DumpProgress.{progress_read, programmed, HasFields, Keeps, IsProgress}
use Rattle.moo_dbtext_record.proofs.DumpFound.{dump_found}

pub then_ok : {A B : Type 0} (r : Result A Told) (f : A → Result B Told) (y : B) → and_then r f ≡ Ok y → (x : A) × (r ≡ Ok x) × (f x ≡ Ok y)
then_ok (Ok x) f y e = (x, refl, e)
then_ok (Err d) f y e = absurd cc

pub told_ok : {A : Type 0} (n : ℕ) (r : Result A LineFault) (x : A) → told n r ≡ Ok x → r ≡ Ok x
told_ok n (Ok y) x e = let same : y ≡ x = cc in ap Ok same
told_ok n (Err f) x e = absurd cc

-- what a reader knows of the bytes that it has taken, with some slack
pub record IsTaken (z : Sizes) (s : Taken) (bytes : List ℕ) : Type 0 where
  pub slack : Slack
  pub is : IsProgress z s.progress slack
  pub whole : bytes ≡ unlines (progress_read s.progress.section s.progress slack) ++ s.rest
  pub count : s.lines ≡ length (progress_read s.progress.section s.progress slack)

pub line_found : (z : Sizes) (s t : Taken) (bytes : List ℕ) → IsTaken z s bytes → line_ended z s s.rest ≡ Ok t → IsTaken z t (bytes ++ 10 ∷ [])
unfolding line_ended
line_found z s t bytes h e =
    let k = h.slack in
    let b = then_ok (told (s.lines + 1) (dump_step z s.progress.section s.progress s.rest)) (λ p. Ok (record { lines = s.lines + 1; progress = p; rest = [] })) t e in
    let a = dump_found z s.progress.section s.progress k s.rest b.0 h.is.text h.is.draft h.is.keeps (told_ok (s.lines + 1) (dump_step z s.progress.section s.progress s.rest) b.0 b.1) in
    let made : Taken = record { lines = s.lines + 1; progress = b.0; rest = [] } in
    let same : made ≡ t = let ok : Taken → Result Taken Told = λ x. Ok x in let f : ok made ≡ ok t = b.2 in cc in
    let front = progress_read s.progress.section s.progress k in
    subst (λ (u : Taken). IsTaken z u (bytes ++ 10 ∷ [])) same (record {
      slack = a.0;
      is = a.1.is;
      whole = ap (λ (bs : List ℕ). bs ++ 10 ∷ []) h.whole ∙ append_assoc (unlines front) s.rest (10 ∷ [])
          ∙ sym (flat_map_push (λ (l : Line). l ++ 10 ∷ []) front s.rest) ∙ ap unlines (sym a.1.read) ∙ sym (append-nil (unlines (progress_read b.0.section b.0 a.0)));
      count =
          let longer : length (progress_read b.0.section b.0 a.0) ≡ length (front ++ s.rest ∷ []) = ap length a.1.read in
          let split = length-append front (s.rest ∷ []) in
          let so_far = h.count in
          omega arith;
    })

pub taken_found : (z : Sizes) (bs : List ℕ) (s t : Taken) (bytes : List ℕ) → IsTaken z s bytes → taken_on z s bs ≡ Ok t → IsTaken z t (bytes ++ bs)
unfolding taken_on
taken_found z [] s t bytes h e = let ok : Taken → Result Taken Told = λ x. Ok x in let f : ok s ≡ ok t = e in let same : s ≡ t = cc in
    subst (λ (u : Taken). IsTaken z u (bytes ++ [])) same (subst (IsTaken z s) (sym (append-nil bytes)) h)
taken_found z (b ∷ bs) s t bytes h e =
    subst (IsTaken z t) (append_assoc bytes (b ∷ []) bs) (decide (eqb b 10) refl (λ u more k f. taken_found z bs u t more k f) e)
  where
    decide : (is : Bool) → eqb b 10 ≡ is → ((u : Taken) (more : List ℕ) → IsTaken z u more → taken_on z u bs ≡ Ok t → IsTaken z t (more ++ bs))
        → cond is (and_then (line_ended z s s.rest) (λ u. taken_on z u bs)) (taken_on z (record s { rest = s.rest ++ b ∷ [] }) bs) ≡ Ok t → IsTaken z t ((bytes ++ b ∷ []) ++ bs)
    decide true is rest f =
        let c = then_ok (line_ended z s s.rest) (λ u. taken_on z u bs) t f in
        rest c.0 (bytes ++ b ∷ []) (subst (λ (k : ℕ). IsTaken z c.0 (bytes ++ k ∷ [])) (sym (eqb-true b 10 is)) (line_found z s c.0 bytes h c.1)) c.2
    decide false is rest f =
        rest (record s { rest = s.rest ++ b ∷ [] }) (bytes ++ b ∷ []) (record {
          slack = h.slack;
          is = h.is;
          whole = ap (λ (k : List ℕ). k ++ b ∷ []) h.whole ∙ append_assoc (unlines (progress_read s.progress.section s.progress h.slack)) s.rest (b ∷ []);
          count = h.count;
        }) f

-- strings that are within the limits or not are strings
string_is_text : (z : Sizes) (line : Line) → IsStringOf z line → IsText line
string_is_text unlimited line h = h
string_is_text limited line h = h.text

sources_are_text : (z : Sizes) (ls : List Line) → AllByRecursion (IsSourceLine z) ls → AllByRecursion (IsSourceLine unlimited) ls
sources_are_text z [] h = tt
sources_are_text z (l ∷ ls) h = (record { text = string_is_text z l h.0.text; more = h.0.more }, sources_are_text z ls h.1)

programs_are_text : (z : Sizes) (ps : List Program) → AllByRecursion (IsProgramText z) ps → AllByRecursion (IsProgramText unlimited) ps
programs_are_text z [] h = tt
programs_are_text z (p ∷ ps) h = (record { object = h.0.object; verb = h.0.verb; source = sources_are_text z p.source h.0.source }, programs_are_text z ps h.1)

-- what is not kept, the lines of programs and the number of connections, with limits on sizes or without
pub record HasSizes (z : Sizes) (t : Text) (k : Slack) : Type 0 where
  pub notes : (n : ℕ) → IsStringOf z (k.notes n)
  pub programs : AllByRecursion (IsProgramText z) k.programs
  pub links : IsCountOf z (length t.links)

-- a text with this slack was read, and these are its lines
pub record IsWhole (z : Sizes) (read : List Line) (t : Text) (k : Slack) : Type 0 where
  pub written : IsWritten unlimited t k
  pub sizes : HasSizes z t k
  pub lines : read ≡ text_lines t k

no_links_few : (z : Sizes) (n : ℕ) → n ≡ 0 → IsCountOf z n
no_links_few unlimited n e = omega arith
no_links_few limited n e = omega arith

ended_found : (z : Sizes) (s : Section) (p : Progress) (k : Slack) (t : Text) → HasFields z p.text k → Keeps z s p k → end_of s p.text ≡ Ok t → IsWhole z (progress_read s p k) t k
ended_found z section.End p k t fields h e = let ok : Text → Result Text LineFault = λ x. Ok x in let f : ok p.text ≡ ok t = e in let same : p.text ≡ t = cc in
    subst (λ (u : Text). IsWhole z (text_lines p.text k) u k) same (record {
      written = record {
        version = fields.version;
        unused = fields.unused;
        players = fields.players;
        player_count = h.players;
        objects = fields.objects;
        notes = λ n. string_is_text z (k.notes n) (fields.notes n);
        object_count = h.objects;
        programs = programs_are_text z k.programs fields.programs;
        fills = h.fills;
        program_count = h.programs;
        form = h.form;
        links = fields.links;
        link_count = h.links;
      };
      sizes = record { notes = fields.notes; programs = fields.programs; links = h.few };
      lines = refl;
    })
ended_found z section.ConnectionCount p k t fields h e =
    let c = chosen_ok (ltb p.text.version 4) p.text t Truncated e in
    let none : length p.text.links ≡ 0 = ap length h.last.links in
    subst (λ (u : Text). IsWhole z (progress_read section.ConnectionCount p k) u k) c.1 (record {
      written = record {
        version = fields.version;
        unused = fields.unused;
        players = fields.players;
        player_count = h.players;
        objects = fields.objects;
        notes = λ n. string_is_text z (k.notes n) (fields.notes n);
        object_count = h.objects;
        programs = programs_are_text z k.programs fields.programs;
        fills = h.fills;
        program_count = h.count;
        form = subst (λ (f : Form). MayHave p.text.version f) (sym h.last.form) (ltb-true _ _ c.0);
        links = fields.links;
        link_count = omega arith;
      };
      sizes = record { notes = fields.notes; programs = fields.programs; links = no_links_few z (length p.text.links) none };
      lines = ap (λ (last : List Line). programmed p.text k (length k.programs) (tasks_lines last)) (sym (ap (λ (f : Form). connections_lines f p.text.links) h.last.form));
    })
ended_found z section.Header p k t fields h e = absurd cc
ended_found z section.ObjectCount p k t fields h e = absurd cc
ended_found z section.ProgramCount p k t fields h e = absurd cc
ended_found z section.Unused p k t fields h e = absurd cc
ended_found z section.PlayerCount p k t fields h e = absurd cc
ended_found z section.Player p k t fields h e = absurd cc
ended_found z section.Head p k t fields h e = absurd cc
ended_found z section.Object p k t fields h e = absurd cc
ended_found z section.ProgramHead p k t fields h e = absurd cc
ended_found z section.Source p k t fields h e = absurd cc
ended_found z section.Clocks p k t fields h e = absurd cc
ended_found z section.Queued p k t fields h e = absurd cc
ended_found z section.Suspended p k t fields h e = absurd cc
ended_found z section.Connection p k t fields h e = absurd cc

-- before the first line
abbrev pub no_slack : Slack
no_slack = record { unused = pos 0; notes = λ n. []; programs = [] }

empty_is_string : (z : Sizes) → IsStringOf z []
empty_is_string unlimited = All-nil IsTextByte
empty_is_string limited = record { text = All-nil IsTextByte; fits = omega arith }

pub start_is : (z : Sizes) → IsProgress z start no_slack
start_is z = record {
  text = record { version = record { low = omega arith; high = omega arith }; unused = record { sfits = omega arith }; players = tt; objects = tt; notes = λ n. empty_is_string z; programs = tt; links = tt };
  draft = fresh_is;
  keeps = (record { objects_count = omega arith; programs_count = omega arith; objects = refl; table = refl; programs = refl; draft = refl; source = refl; last = record { form = refl; links = refl } }, refl);
}

pub begins : (z : Sizes) → IsTaken z begin []
begins z = record { slack = no_slack; is = start_is z; whole = refl; count = refl }

-- the slack with which a text was read
pub record IsReadSo (z : Sizes) (bytes : List ℕ) (t : Text) : Type 0 where
  pub slack : Slack
  pub lines : List Line
  pub whole : IsWhole z lines t slack
  pub bytes_are : bytes ≡ unlines lines

pub answer_read : (z : Sizes) (bytes : List ℕ) (t : Text) → answer_to z bytes ≡ Ok t → IsReadSo z bytes t
unfolding answer_to finished ended
answer_read z bytes t e =
    let b = then_ok (taken_on z begin bytes) finished t e in
    let h = taken_found z bytes begin b.0 [] (begins z) b.1 in
    last b.0 b.0.rest refl h b.2
  where
    last : (s : Taken) (rest : Line) → s.rest ≡ rest → IsTaken z s bytes → finished_with s rest ≡ Ok t → IsReadSo z bytes t
    last s [] empty h f =
        let k = h.slack in
        let read = progress_read s.progress.section s.progress k in
        record {
          slack = k;
          lines = read;
          whole = ended_found z s.progress.section s.progress k t h.is.text h.is.keeps (told_ok (s.lines + 1) (end_of s.progress.section s.progress.text) t f);
          bytes_are = h.whole ∙ ap (λ (r : Line). unlines read ++ r) empty ∙ append-nil (unlines read);
        }
    last s (x ∷ rest) empty h f = absurd cc

pub answer_found : (z : Sizes) (bytes : List ℕ) (t : Text) → answer_to z bytes ≡ Ok t → Spells bytes t
answer_found z bytes t e =
    let h = answer_read z bytes t e in
    record { slack = h.slack; written = h.whole.written; lines = h.bytes_are ∙ ap unlines h.whole.lines }

-- Three parts of a line, one after another.
use Rattle.std.proofs.Common.{◌≡◌, ℕ, List, [], ◌++◌, ap, ◌∙◌, append_assoc}
use Rattle.std.specs.Prelude.{Result, Ok, Err, OnOk}

pub joined : (o0 o1 o2 o3 a b c d e f : List ℕ) → o0 ≡ [] → o1 ≡ o0 ++ (a ++ b) → o2 ≡ o1 ++ (c ++ d) → o3 ≡ o2 ++ (e ++ f) → o3 ≡ a ++ (b ++ (c ++ (d ++ (e ++ f))))
joined o0 o1 o2 o3 a b c d e f none first second third =
    third ∙ ap (λ l. l ++ (e ++ f)) (second ∙ ap (λ l. l ++ (c ++ d)) (first ∙ ap (λ l. l ++ (a ++ b)) none))
    ∙ append_assoc (a ++ b) (c ++ d) (e ++ f) ∙ append_assoc a b ((c ++ d) ++ (e ++ f)) ∙ ap (λ l. a ++ (b ++ l)) (append_assoc c d (e ++ f))

pub told_joined : (o0 o1 o2 o3 o4 a b c d e : List ℕ) → o0 ≡ [] → o1 ≡ o0 ++ (a ++ b) → o2 ≡ o1 ++ c → o3 ≡ o2 ++ d → o4 ≡ o3 ++ e → o4 ≡ a ++ (b ++ (c ++ (d ++ e)))
told_joined o0 o1 o2 o3 o4 a b c d e none first second third fourth =
    fourth ∙ ap (λ l. l ++ e) (third ∙ ap (λ l. l ++ d) (second ∙ ap (λ l. l ++ c) (first ∙ ap (λ l. l ++ (a ++ b)) none)))
    ∙ append_assoc ((a ++ b) ++ c) d e ∙ append_assoc (a ++ b) c (d ++ e) ∙ append_assoc a b (c ++ (d ++ e))

pub program_joined : (o0 o1 o2 o3 o4 o5 a b c d e f g h : List ℕ) → o1 ≡ o0 ++ (a ++ b) → o2 ≡ o1 ++ (c ++ d) → o3 ≡ o2 ++ (e ++ f) → o4 ≡ o3 ++ g → o5 ≡ o4 ++ h
    → o5 ≡ o0 ++ (a ++ (b ++ (c ++ (d ++ (e ++ (f ++ (g ++ h)))))))
program_joined o0 o1 o2 o3 o4 o5 a b c d e f g h first second third fourth fifth =
    fifth ∙ ap (λ l. l ++ h) (fourth ∙ ap (λ l. l ++ g) (third ∙ ap (λ l. l ++ (e ++ f)) (second ∙ ap (λ l. l ++ (c ++ d)) first)))
    ∙ append_assoc (((o0 ++ (a ++ b)) ++ (c ++ d)) ++ (e ++ f)) g h
    ∙ append_assoc ((o0 ++ (a ++ b)) ++ (c ++ d)) (e ++ f) (g ++ h)
    ∙ ap (λ l. ((o0 ++ (a ++ b)) ++ (c ++ d)) ++ l) (append_assoc e f (g ++ h))
    ∙ append_assoc (o0 ++ (a ++ b)) (c ++ d) (e ++ (f ++ (g ++ h)))
    ∙ ap (λ l. (o0 ++ (a ++ b)) ++ l) (append_assoc c d (e ++ (f ++ (g ++ h))))
    ∙ append_assoc o0 (a ++ b) (c ++ (d ++ (e ++ (f ++ (g ++ h)))))
    ∙ ap (λ l. o0 ++ l) (append_assoc a b (c ++ (d ++ (e ++ (f ++ (g ++ h))))))

pub on_ok : {A E : Type 0} (P Q : Type 0) (r : Result A E) → (P → Q) → OnOk r P → OnOk r Q
on_ok P Q (Ok x) step h = step h
on_ok P Q (Err e) step h = tt

-- A choice of two facts, a handshake that fails, and a whole head.
use Rattle.std.proofs.Common.{◌≡◌, ◌≤◌, inr, ℕ, Bool, true, List, length, take, drop, map, Result, Ok, Err, refl, ap, subst, arith}
use Rattle.std.proofs.lemmas.List.{length-map, length-take}
use Rattle.httparse.specs.Grammar.{Field}
use Rattle.httparse.specs.Spans.{IsRequestOf, header_bytes, name_and_value, span_bytes}
use Rattle.httparse.specs.declared.spans.HeaderSpan.{HeaderSpan}
use Rattle.httparse.specs.declared.spans.RequestSpans.{RequestSpans}
use Rattle.websocket.specs.Headers.{Fields}
use Rattle.websocket.specs.Handshake.{Answers}
use Rattle.websocket.specs.declared.handshake.failure.HandshakeError.{HandshakeError}
use Rattle.moo_cli_web_request.specs.Requests.{AcceptsKey, AsksFor, Choose, HeadRequests, IsOfHead, RequestsBy, fields_in}
use Rattle.moo_cli_web_request.specs.declared.allowed.Allowed.{Allowed}
use Rattle.moo_cli_web_request.specs.declared.request.Request.{Request}
use Rattle.moo_cli_web_request.specs.declared.request.Request.TheVariants as the
use Rattle.moo_cli_web_request.specs.declared.refusal.Refusal.TheVariants as refused

pub chosen : (b : Bool) (A B : Type 0) → true ≡ b → A → Choose b A B
chosen b A B is a = subst (λ x. Choose x A B) is a

pub not_accepted : (r : Result (List ℕ) HandshakeError) (e : HandshakeError) (n : ℕ) → Answers (Err e) r → AcceptsKey r n (the.Refused refused.UpgradeRequired)
not_accepted (Ok key) e n h = inr (h.0, refl)
not_accepted (Err f) e n h = refl

-- what a whole head asks for is what the bytes ask for
of_head : (allowed : Allowed) (bytes : List ℕ) (asked : Request) → IsOfHead asked → HeadRequests allowed bytes asked → AsksFor allowed bytes asked
of_head allowed bytes the.Incomplete is head = absurd is
of_head allowed bytes (the.Refused refused.TooLarge) is head = absurd is
of_head allowed bytes (the.Refused refused.BadRequest) is head = inr head
of_head allowed bytes (the.Refused refused.Forbidden) is head = head
of_head allowed bytes (the.Refused refused.NotFound) is head = head
of_head allowed bytes (the.Refused refused.MethodNotAllowed) is head = head
of_head allowed bytes (the.Refused refused.UpgradeRequired) is head = head
of_head allowed bytes the.Page is head = head
of_head allowed bytes (the.Upgrade accept n) is head = head

-- the fields of a head are no more than the spans that have room for them
few_fields : (bytes : List ℕ) (spans : List HeaderSpan) (count : ℕ) (fields : List Field)
    → map (header_bytes bytes) (take count spans) ≡ map name_and_value fields → length fields ≤ length spans
few_fields bytes spans count fields same =
    omega (arith, ap (λ (xs : Fields). length xs) same, length-map (take count spans) (header_bytes bytes), length-map fields name_and_value, length-take count spans)

-- a whole head at these places within the limits
pub head_asks : (allowed : Allowed) (bytes : List ℕ) (spans : List HeaderSpan) (r : RequestSpans) (asked : Request) → IsRequestOf bytes spans r
    → length spans ≡ 64 → r.len ≤ 8192
    → RequestsBy allowed (span_bytes bytes r.method) (span_bytes bytes r.path) r.version (fields_in bytes spans r) r.len asked → IsOfHead asked → AsksFor allowed bytes asked
head_asks allowed bytes spans r asked of room short asks is =
    let h = of.0 in
    let at = of.1 in
    let method : RequestsBy allowed h.method (span_bytes bytes r.path) r.version (fields_in bytes spans r) r.len asked =
    subst (λ (m : List ℕ). RequestsBy allowed m (span_bytes bytes r.path) r.version (fields_in bytes spans r) r.len asked) at.method asks in
    let target : RequestsBy allowed h.method h.target r.version (fields_in bytes spans r) r.len asked =
    subst (λ (t : List ℕ). RequestsBy allowed h.method t r.version (fields_in bytes spans r) r.len asked) at.path method in
    let version : RequestsBy allowed h.method h.target h.minor (fields_in bytes spans r) r.len asked =
    subst (λ (v : ℕ). RequestsBy allowed h.method h.target v (fields_in bytes spans r) r.len asked) at.version target in
    let fields : RequestsBy allowed h.method h.target h.minor (map name_and_value h.fields) r.len asked =
    subst (λ (f : Fields). RequestsBy allowed h.method h.target h.minor f r.len asked) at.fields version in
    of_head allowed bytes asked is (
      h,
      drop r.len bytes,
      at.reads,
      omega (arith, room, few_fields bytes spans r.headers h.fields at.fields),
      omega (arith, short, at.len),
      subst (λ (n : ℕ). RequestsBy allowed h.method h.target h.minor (map name_and_value h.fields) n asked) at.len fields,
    )

-- Writes to sockets, one number after another.
use Rattle.std.proofs.Common.{◌≡◌, ◌≢◌, ℕ, ◌+◌, ◌<◌, ◌≤◌, List, ◌++◌, length, Option, Some, None, Bool, false, refl, sym, ◌∙◌, ap, subst, arith}
use Rattle.std.specs.Prelude.{◌⊎◌, IfSome, IsSome, IsSomeAnd, All, true, eqb, nat_lt, ◌&&◌, ◌||◌, if◌then◌else◌}
use Rattle.std.proofs.Common.{[], inl, inr}
use Rattle.std.proofs.lemmas.Bool.{cases_eq, cases_lt, ltb-false, true≢false}
use Rattle.std.specs.Option.{option_map}
use Rattle.slab.specs.Slab.{Slab, get}
use Rattle.moo_cli_sockets.specs.declared.socket.Socket.{Socket}
use Rattle.moo_cli_sockets.specs.Coming.{Each, held, only}
use Rattle.moo_cli_sockets.specs.Reading.{IsKept, Keeps}
use Rattle.moo_cli_sockets.specs.Sending.{MayFail, Sends}
use Rattle.moo_cli_sockets.specs.Waiting.{waits_of}
use Rattle.moo_cli_sockets.proofs.Counting.{each_gap, each_map, each_more}
use Rattle.moo_dbtext_read.specs.Saved.{Saved}
use Rattle.moo_server_core.specs.Application.{Layer, Output}
use Rattle.moo_server_core.specs.Server.{Hands, state_of, waiting_of}
use Rattle.moo_server_core.specs.declared.event.Event.{Event}
use Rattle.moo_server_core.specs.declared.event.Event.TheVariants as the
use Rattle.moo_server_core.specs.declared.server_core.ServerCore.{ServerCore}
use Rattle.moo_cli_serve.specs.Strangers.{leaves, may_be_late}
use Rattle.moo_cli_serve.specs.Idle.{IsIdle}
use Rattle.moo_cli_serve.specs.Room.{HaveRoom, HasRoom, bytes_held}
use Rattle.moo_cli_serve.specs.Writing.{IsLeft, IsWritten, IsWrittenTo, Writes, is_among, is_parted}
use Rattle.moo_cli_serve.proofs.Carrying.{carried}
use Rattle.moo_cli_serve.proofs.Idling.{idle_room, idle_writes}

abbrev waits : Option Socket → Option (List ℕ)
waits slot = option_map (λ (socket : Socket). waits_of socket) slot

kept_if : (was : Socket) (is : Option Socket) → IsSomeAnd is (Keeps was) → IfSome is (Keeps was)
kept_if was None kept = tt
kept_if was (Some is) kept = kept

-- a connection without a socket
pub unsent : (most : ℕ) (late leaving : Bool) (bytes : List ℕ) (slot : Option Socket) (c : ℕ) → (IsSome (waits slot) → ⊥) → IsWritten most leaving late bytes bytes slot slot c None
unsent most late leaving bytes None c none = (refl, refl, refl)
unsent most late leaving bytes (Some socket) c none = absurd (none refl)

-- a connection that was written to and goes on
pub stays : (most : ℕ) (late leaving leaving' : Bool) (output bytes left : List ℕ) (was is : Option Socket) (c : ℕ) (waiting : Option ℕ) → leaving ≡ leaving' → output ≡ bytes → left ≡ []
    → is_parted most leaving late waiting ≡ false → IsKept was is → IfSome waiting (λ w. Sends output (waits was) (waits is) w) → IsWritten most leaving' late bytes left was is c None
stays most late leaving leaving' output bytes left was is c None same all none goes kept sent = absurd (true≢false goes)
stays most late leaving leaving' output bytes left None is c (Some w) same all none goes kept sent = let had = sent.had in absurd cc
stays most late leaving leaving' output bytes left (Some was) is c (Some w) same all none goes kept sent =
    carried most late leaving leaving' output bytes left left (Some was) (Some was) is is c None (sym same) (sym all) refl refl refl (
      none,
      record {
        rest = Some sent.rest;
        out = (sent.out, ap (λ (w : List ℕ). w ++ output) before ∙ sent.all);
        fails = λ no. absurd cc;
        stays = sent.has ∙ sym (ap (λ (b : Bool). if b then None else Some sent.rest) goes_on);
        keeps = kept_if was is kept;
        parts = sym (ap (λ (b : Bool). if b then Some (the.Hangup c) else None) goes_on);
      },
    )
  where
    before : waits_of was ≡ sent.before
    before = let had = sent.had in cc

    goes_on : is_parted most leaving late (Some (length sent.rest)) ≡ false
    goes_on = ap (λ (n : ℕ). is_parted most leaving late (Some n)) (sym sent.count) ∙ goes

-- one that was written to and is hung up
pub parts : (most : ℕ) (late leaving leaving' : Bool) (output bytes left : List ℕ) (was is : Option Socket) (between : Option (List ℕ)) (c : ℕ) (waiting : Option ℕ) → leaving ≡ leaving' → output ≡ bytes → left ≡ []
    → is_parted most leaving late waiting ≡ true → IsSome (waits was) → is ≡ None → IfSome waiting (λ w. Sends output (waits was) between w)
    → (waiting ≡ None → IfSome was (MayFail output)) → IsWritten most leaving' late bytes left was is c (Some (the.Hangup c))
parts most late leaving leaving' output bytes left None is between c waiting same all none ends some gone sent fails = absurd cc
parts most late leaving leaving' output bytes left (Some was) is between c None same all none ends some gone sent fails =
    carried most late leaving leaving' output bytes left left (Some was) (Some was) None is c (Some (the.Hangup c)) (sym same) (sym all) refl refl gone
    (none, record { rest = None; out = tt; fails = λ no. fails refl; stays = refl; keeps = tt; parts = refl })
parts most late leaving leaving' output bytes left (Some was) is between c (Some w) same all none ends some gone sent fails =
    carried most late leaving leaving' output bytes left left (Some was) (Some was) None is c (Some (the.Hangup c)) (sym same) (sym all) refl refl gone (
      none,
      record {
        rest = Some sent.rest;
        out = (sent.out, ap (λ (w : List ℕ). w ++ output) before ∙ sent.all);
        fails = λ no. absurd cc;
        stays = sym (ap (λ (b : Bool). if b then None else Some sent.rest) ends_now);
        keeps = tt;
        parts = sym (ap (λ (b : Bool). if b then Some (the.Hangup c) else None) ends_now);
      },
    )
  where
    before : waits_of was ≡ sent.before
    before = let had = sent.had in cc

    ends_now : is_parted most leaving late (Some (length sent.rest)) ≡ true
    ends_now = ap (λ (n : ℕ). is_parted most leaving late (Some n)) (sym sent.count) ∙ ends

third_false : (a b d : Bool) → ((a || b) || d) ≡ false → b ≡ false
third_false true b d e = absurd (true≢false e)
third_false false true d e = absurd (true≢false e)
third_false false false d e = refl

-- a connection that was written to and goes on has room
pub stays_room : (most : ℕ) (late leaving : Bool) (output : List ℕ) (was is : Option (List ℕ)) (waiting : Option ℕ)
    → is_parted most leaving late waiting ≡ false → IfSome waiting (λ w. Sends output was is w) → length (bytes_held is) ≤ most
stays_room most late leaving output was is None goes sent = absurd (true≢false goes)
stays_room most late leaving output was is (Some w) goes sent =
    subst (λ (o : Option (List ℕ)). length (bytes_held o) ≤ most) (sym sent.has)
    (subst (λ (n : ℕ). n ≤ most) sent.count (ltb-false most w (third_false (leaving && eqb w 0) (nat_lt most w) late goes)))

module _ {S Application : Type 0} (l : Layer S Application Saved) where
  -- who leaves does so still where something was handed out
  pub leaves_on : (handed : Output) (one other : ServerCore S) (c : ℕ) → Hands l handed one other → leaves l other c ≡ leaves l one c
  leaves_on handed one other c hands =
      ap (λ (h : Bool). if h then false else l.meaning.is_leaving (state_of l other).sessions c) hands.same.halted
      ∙ ap (λ state. if one.halted then false else l.meaning.is_leaving state.sessions c) hands.same.state

  -- Numbers below n are written to, and the others left.
  pub record AreWritten (most : ℕ) (late : List ℕ) (n : ℕ) (before after : ServerCore S) (old new : Slab Socket) (events : List Event) : Type 0 where
    pub handed : (handed : Output) × Hands l handed before after
    pub each : Each (λ c event. IsWrittenTo l most (is_among late c) before after old new c event) n events
    pub left : (c : ℕ) → n ≤ c → IsLeft l c before after old new
    pub log : (waiting_of l after).logged ≡ (waiting_of l before).logged

  pub written_more : (most : ℕ) (late : List ℕ) (n : ℕ) (before mid after : ServerCore S) (old between new : Slab Socket) (events all : List Event) (event : Option Event)
      → AreWritten most late n before mid old between events → ((h : Output) × Hands l h before after) → IsWrittenTo l most (is_among late n) mid after between new n event
      → ((c : ℕ) → c ≢ n → IsLeft l c mid after between new) → (waiting_of l after).logged ≡ (waiting_of l mid).logged → all ≡ events ++ only event
      → AreWritten most late (n + 1) before after old new all
  written_more most late n before mid after old between new events all event so_far handed now others log is = record {
    handed = handed;
    each = each_more (λ c e. IsWrittenTo l most (is_among late c) before after old new c e) n events all event
        (each_map (λ c e. IsWrittenTo l most (is_among late c) before mid old between c e) (λ c e. IsWrittenTo l most (is_among late c) before after old new c e) n events earlier so_far.each)
        here is;
    left = λ c from.
        let was = so_far.left c (omega (arith, from)) in
        let then_is = others c (λ same. omega (arith, from, same)) in
        record { socket = then_is.socket ∙ was.socket; waiting = then_is.waiting ∙ was.waiting };
    log = log ∙ so_far.log;
  }
    where
      earlier : (c : ℕ) → c < n → (e : Option Event) → IsWrittenTo l most (is_among late c) before mid old between c e → IsWrittenTo l most (is_among late c) before after old new c e
      earlier c less e written =
          let left = others c (λ same. omega (arith, less, same)) in
          carried most (is_among late c) (leaves l before c) (leaves l before c) ((waiting_of l before).sent c) ((waiting_of l before).sent c) ((waiting_of l mid).sent c) ((waiting_of l after).sent c)
          (get old c) (get old c) (get between c) (get new c) c e refl refl left.waiting refl left.socket written

      here : IsWrittenTo l most (is_among late n) before after old new n event
      here =
          let left = so_far.left n (omega arith) in
          carried most (is_among late n) (leaves l mid n) (leaves l before n) ((waiting_of l mid).sent n) ((waiting_of l before).sent n) ((waiting_of l after).sent n) ((waiting_of l after).sent n)
          (get between n) (get old n) (get new n) (get new n) n event (sym (leaves_on so_far.handed.0 before mid n so_far.handed.1)) (sym left.waiting) refl (sym left.socket) refl now

  -- idle numbers up to a higher one count as written to
  pub written_gap : (most : ℕ) (settled : Bool) (late : List ℕ) (n m : ℕ) (before after : ServerCore S) (old new : Slab Socket) (events : List Event) → n ≤ m → m ≤ 65536
      → ((c : ℕ) → n ≤ c → c < m → IsIdle l settled late before old c) → (settled ≡ true → HaveRoom most old)
      → AreWritten most late n before after old new events → AreWritten most late m before after old new events
  written_gap most settled late n m before after old new events up end idle room are = record {
    handed = are.handed;
    each = each_gap (λ c e. IsWrittenTo l most (is_among late c) before after old new c e) n m events up
        (λ c from below. idle_writes l most settled late before after old new c (omega (arith, end, below)) (idle c from below) room (are.left c from)) are.each;
    left = λ c from. are.left c (omega (arith, up, from));
    log = are.log;
  }

  -- All below a number that was written to have room, and so does it.
  pub room_more : (most : ℕ) (settled : Bool) (late : List ℕ) (n number : ℕ) (before mid after : ServerCore S) (old between new : Slab Socket) → number < 65536
      → ((c : ℕ) → n ≤ c → c < number → IsIdle l settled late before old c) → (settled ≡ true → HaveRoom most old)
      → ((c : ℕ) → n ≤ c → IsLeft l c before mid old between) → ((c : ℕ) → c ≢ number → IsLeft l c mid after between new)
      → HasRoom most new number → ((c : ℕ) → c < n → HasRoom most between c) → (c : ℕ) → c < number + 1 → HasRoom most new c
  room_more most settled late n number before mid after old between new small idle room left others here below c less = by_number (cases_eq c number)
    where
      was : c ≢ number → (c < n) ⊎ (n ≤ c) → HasRoom most between c
      was differs (inl lower) = below c lower
      was differs (inr from) =
          subst (λ (slot : Option Socket). length (bytes_held (waits slot)) ≤ most) (sym (left c from).socket)
          (idle_room l most settled late before old c (omega (arith, less, small, differs)) (idle c from (omega (arith, less, differs))) room)

      by_number : (c ≡ number) ⊎ (c ≢ number) → HasRoom most new c
      by_number (inl same) = subst (λ (k : ℕ). HasRoom most new k) (sym same) here
      by_number (inr differs) = subst (λ (slot : Option Socket). length (bytes_held (waits slot)) ≤ most) (sym (others c differs).socket) (was differs (cases_lt c n))

  -- All have room once no other is due.
  pub room_all : (most : ℕ) (settled : Bool) (late : List ℕ) (n : ℕ) (before after : ServerCore S) (old new : Slab Socket)
      → ((c : ℕ) → n ≤ c → c < 65536 → IsIdle l settled late before old c) → (settled ≡ true → HaveRoom most old)
      → ((c : ℕ) → n ≤ c → IsLeft l c before after old new) → ((c : ℕ) → c < n → HasRoom most new c) → HaveRoom most new
  room_all most settled late n before after old new idle room left below c small = by_order (cases_lt c n)
    where
      by_order : (c < n) ⊎ (n ≤ c) → HasRoom most new c
      by_order (inl lower) = below c lower
      by_order (inr from) =
          subst (λ (slot : Option Socket). length (bytes_held (waits slot)) ≤ most) (sym (left c from).socket) (idle_room l most settled late before old c small (idle c from small) room)

  -- in the end all are, up to the last number, or where no socket has one from n on
  pub written_all : (most : ℕ) (silent : ℕ → Bool) (late : List ℕ) (n : ℕ) (before after : ServerCore S) (old new : Slab Socket) (events : List Event)
      → (65536 ≤ n) ⊎ ((c : ℕ) → n ≤ c → held old c ≡ None) → All (λ c. may_be_late l silent before c ≡ true) late → AreWritten most late n before after old new events → Writes l most silent before after old new events
  written_all most silent late n before after old new events end late_are are = record {
    below = n;
    late = late;
    late_are = late_are;
    each = are.each;
    beyond = λ c from below. by_end c from below end;
    untaken = λ c from. (are.left c from).waiting;
    log = are.log;
  }
    where
      by_end : (c : ℕ) → n ≤ c → c < 65536 → (65536 ≤ n) ⊎ ((k : ℕ) → n ≤ k → held old k ≡ None) → (held old c ≡ None) × (held new c ≡ None)
      by_end c from below (inl past) = absurd (omega (arith, from, below, past))
      by_end c from below (inr free) = (free c from, ap waits (are.left c from).socket ∙ free c from)

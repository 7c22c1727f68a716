-- Sockets whose input is kept, and those that are read from.
use Rattle.std.proofs.Common.{◌≡◌, ◌≢◌, ◌⊎◌, ℕ, ◌<◌, ◌≤◌, List, [], ◌++◌, length, Option, None, Some, inl, inr, refl, sym, ◌∙◌, ap, subst, append-nil}
use Rattle.std.specs.Prelude.{Bool, Ok, Err, Result, IfSome, IsSome, IsSomeAnd, IsTrue, OnErr, OnOk, true}
use Rattle.std.specs.Global.{Vec}
use Rattle.std.proofs.lemmas.Bool.{cases_eq}
use Rattle.slab.specs.Slab.{Slab, Updates, get, with_value}
use Rattle.slab.proofs.SlabLemmas.{Updates-with_value}
use Rattle.websocket.specs.Connection.{Connection}
use Rattle.websocket.specs.Stream.{Trace, read_all}
use Rattle.moo_cli_telnet.specs.declared.filter.Telnet.{Telnet}
use Rattle.moo_cli_web_frames.specs.Channels.{Accepts, IsNew, KeepsInput}
use Rattle.moo_cli_web_frames.specs.Frames.{opened}
use Rattle.moo_cli_web_frames.specs.Tending.{Tends}
use Rattle.moo_cli_web_frames.specs.declared.channel.Channel.{Channel}
use Rattle.moo_cli_web_frames.specs.declared.endpoint.Endpoint.{Endpoint}
use Rattle.moo_cli_web_frames.specs.declared.silence.Silence.{Silence}
use Rattle.moo_server_core.specs.declared.event.Event.TheVariants as the
use Rattle.moo_cli_sockets.specs.declared.socket.Came.TheVariants as came
use Rattle.moo_cli_sockets.specs.declared.socket.Socket.{Socket}
use Rattle.moo_cli_sockets.specs.Framing.{Hears, IsBrowsers, IsHeard, KeepsChannel, LooksAt}
use Rattle.moo_cli_sockets.specs.Sending.{MayFail}
use Rattle.moo_cli_sockets.specs.Waiting.{waits_of}
use Rattle.moo_cli_sockets.specs.declared.socket.Came.{Came}
use Rattle.moo_cli_sockets.specs.Reading.{Brings, Gives, HasFilter, HasSameChannel, IsInput, IsKept, IsLeft, IsLookedAt, IsSame, IsStill, IsTended, IsUpgraded, Keeps, Reads, Receives}

-- ---- a channel that keeps what came on it

channel_same : (was is : Option Channel) → is ≡ was → KeepsChannel was is
channel_same None is same = same
channel_same (Some was) is same = subst (λ (slot : Option Channel). IsSomeAnd slot (KeepsInput was)) (sym same) (refl, refl, refl)

channel_on : (was between is : Option Channel) → KeepsChannel was between → KeepsChannel between is → KeepsChannel was is
channel_on None between is first second = subst (λ (slot : Option Channel). KeepsChannel slot is) first second
channel_on (Some was) None is first second = absurd first
channel_on (Some was) (Some between) None first second = absurd second
channel_on (Some was) (Some between) (Some is) first second =
    (second.0 ∙ first.0, second.1 ∙ first.1, second.2 ∙ ap (λ (c : Connection). record c { state = is.endpoint.context.state }) first.2)

-- a call of the channel that keeps it
pub channel_keeps : (one two : Option Channel) (was is : Channel) → one ≡ Some was → two ≡ Some is → KeepsInput was is → KeepsChannel one two
channel_keeps one two was is had has keeps =
    subst (λ (slot : Option Channel). KeepsChannel slot two) (sym had) (subst (λ (slot : Option Channel). IsSomeAnd slot (KeepsInput was)) (sym has) keeps)

-- one that keeps its end
pub end_keeps : (one two : Option Channel) (was is : Channel) → one ≡ Some was → two ≡ Some is → is.payload ≡ was.payload → is.endpoint ≡ was.endpoint → KeepsChannel one two
end_keeps one two was is had has payload endpoint =
    channel_keeps one two was is had has (
      payload,
      ap (λ (e : Endpoint). e.input) endpoint,
      ap (λ (e : Endpoint). e.context) endpoint ∙ ap (λ (e : Endpoint). record was.endpoint.context { state = e.context.state }) (sym endpoint),
    )

-- ---- a socket that keeps what it has

pub keeps_same : (old new : Socket) → IsSame old new → Keeps old new
keeps_same old new same = (same.0, same.1, same.3, channel_same old.channel new.channel same.2)

pub keeps_on : (old between new : Socket) → Keeps old between → Keeps between new → Keeps old new
keeps_on old between new first second =
    (second.0 ∙ first.0, second.1 ∙ first.1, second.2 ∙ first.2, channel_on old.channel between.channel new.channel first.3 second.3)

pub kept_same : (was is : Option Socket) → is ≡ was → IsKept was is
kept_same None is same = tt
kept_same (Some socket) is same = subst (λ (slot : Option Socket). IsSomeAnd slot (Keeps socket)) (sym same) (keeps_same socket socket (refl, refl, refl, refl))

pub kept_on : (was between is : Option Socket) → IsKept was between → IsKept between is → IsKept was is
kept_on None between is first second = tt
kept_on (Some was) None is first second = absurd first
kept_on (Some was) (Some between) None first second = absurd second
kept_on (Some was) (Some between) (Some is) first second = keeps_on was between is first second

-- ---- a socket that is what it was

pub left_same : (was is : Option Socket) → is ≡ was → IsLeft was is
left_same None is same = tt
left_same (Some socket) is same = same

pub kept_left : (was between is : Option Socket) → IsKept was between → IsLeft between is → IsKept was is
kept_left None between is kept left = tt
kept_left (Some was) None is kept left = absurd kept
kept_left (Some was) (Some between) is kept left = subst (λ (slot : Option Socket). IsSomeAnd slot (Keeps was)) (sym left) kept

channel_left : (was between is : Option Socket) → HasSameChannel was between → IsLeft between is → HasSameChannel was is
channel_left None between is same left = tt
channel_left (Some was) None is same left = absurd same
channel_left (Some was) (Some between) is same left = subst (λ (slot : Option Socket). IsSomeAnd slot (λ socket. socket.channel ≡ was.channel)) (sym left) same

tended_left : (now : ℕ) (was between is : Option Socket) → IsTended now was between → IsLeft between is → IsTended now was is
tended_left now None between is tended left = tt
tended_left now (Some was) None is tended left = absurd tended
tended_left now (Some was) (Some between) is tended left = subst (λ (slot : Option Socket). IsSomeAnd slot (LooksAt now was)) (sym left) tended

pub looked_left : (before now then : ℕ) (was between is : Option Socket) → then ≡ now → IsLookedAt before now was between → IsLeft between is → IsLookedAt before then was is
looked_left before now then was between is same (inl still) left = inl (same ∙ still.0, channel_left was between is still.1 left)
looked_left before now then was between is same (inr tended) left =
    inr (subst (λ (n : ℕ). IsTended n was is) (sym same) (tended_left now was between is tended left))

pub same_channel : (was is : Option Socket) → is ≡ was → HasSameChannel was is
same_channel None is same = tt
same_channel (Some socket) is same = subst (λ (slot : Option Socket). IsSomeAnd slot (λ s. s.channel ≡ socket.channel)) (sym same) refl

pub still_same : (was is : Option Socket) → is ≡ was → IsStill was is
still_same None is same = same
still_same (Some socket) is same = subst (λ (slot : Option Socket). IsSomeAnd slot (IsSame socket)) (sym same) (refl, refl, refl, refl)

pub kept_still : (was is : Option Socket) → IsStill was is → IsKept was is
kept_still None is still = tt
kept_still (Some was) None still = absurd still
kept_still (Some was) (Some is) still = keeps_same was is still

-- one that is looked at after that
pub looked_still : (before now : ℕ) (was between is : Option Socket) → IsStill was between → IsLookedAt before now between is → IsLookedAt before now was is
looked_still before now None between is still looked = inr tt
looked_still before now (Some was) None is still looked = absurd still
looked_still before now (Some was) (Some between) None still (inl same) = absurd same.1
looked_still before now (Some was) (Some between) None still (inr tended) = absurd tended
looked_still before now (Some was) (Some between) (Some is) still (inl same) = inl (same.0, same.1 ∙ still.2)
looked_still before now (Some was) (Some between) (Some is) still (inr tended) = inr (λ channel had. tended channel (still.2 ∙ had))

pub still_on : (was between is : Option Socket) → IsStill was between → IsStill between is → IsStill was is
still_on None between is first second = subst (λ (slot : Option Socket). IsStill slot is) first second
still_on (Some was) None is first second = absurd first
still_on (Some was) (Some between) None first second = absurd second
still_on (Some was) (Some between) (Some is) first second = (second.0 ∙ first.0, second.1 ∙ first.1, second.2 ∙ first.2, second.3 ∙ first.3)

-- ---- the sockets of a slab

-- the other places are what they were
kept_updated : (old new : Slab Socket) (key : ℕ) (slot : Option Socket) → Updates old new key slot → IsKept (get old key) slot → (c : ℕ) → IsKept (get old c) (get new c)
kept_updated old new key slot updates here c = by_key (cases_eq c key)
  where
    by_key : (c ≡ key) ⊎ (c ≢ key) → IsKept (get old c) (get new c)
    by_key (inl same) =
        subst (λ (k : ℕ). IsKept (get old k) (get new k)) (sym same) (subst (λ (s : Option Socket). IsKept (get old key) s) (sym updates.changed) here)
    by_key (inr differs) = kept_same (get old c) (get new c) (updates.others c differs)

-- a socket at a free place
pub left_inserted : (old new : Slab Socket) (key : ℕ) (socket : Socket) (c : ℕ) → Updates old new key (Some socket) → get old key ≡ None → IsLeft (get old c) (get new c)
left_inserted old new key socket c updates vacant = by_key (cases_eq c key)
  where
    by_key : (c ≡ key) ⊎ (c ≢ key) → IsLeft (get old c) (get new c)
    by_key (inl same) =
        subst (λ (k : ℕ). IsLeft (get old k) (get new k)) (sym same) (subst (λ (slot : Option Socket). IsLeft slot (get new key)) (sym vacant) tt)
    by_key (inr differs) = left_same (get old c) (get new c) (updates.others c differs)

written : (sockets : Slab Socket) (key : ℕ) (was is : Socket) → Some was ≡ get sockets key → Updates sockets (with_value sockets key is) key (Some is)
written sockets key was is found = Updates-with_value sockets key is (subst (λ (slot : Option Socket). IsSome slot) found refl)

-- a socket that keeps what it had
pub kept_written : (sockets : Slab Socket) (key : ℕ) (was is : Socket) (c : ℕ) → Some was ≡ get sockets key → Keeps was is
    → IsKept (get sockets c) (get (with_value sockets key is) c)
kept_written sockets key was is c found keeps =
    kept_updated sockets (with_value sockets key is) key (Some is) (written sockets key was is found) (subst (λ (slot : Option Socket). IsKept slot (Some is)) found keeps) c

-- a socket that the system reports as ready
pub still_written : (sockets : Slab Socket) (key : ℕ) (was is : Socket) (c : ℕ) → Some was ≡ get sockets key → IsSame was is
    → IsStill (get sockets c) (get (with_value sockets key is) c)
still_written sockets key was is c found same = by_key (cases_eq c key)
  where
    by_key : (c ≡ key) ⊎ (c ≢ key) → IsStill (get sockets c) (get (with_value sockets key is) c)
    by_key (inl here) =
        subst (λ (k : ℕ). IsStill (get sockets k) (get (with_value sockets key is) k)) (sym here)
        (subst (λ (slot : Option Socket). IsStill (get sockets key) slot) (sym (written sockets key was is found).changed) (subst (λ (slot : Option Socket). IsStill slot (Some is)) found same))
    by_key (inr differs) = still_same (get sockets c) (get (with_value sockets key is) c) ((written sockets key was is found).others c differs)

-- a socket that was given output, and one that was written to after that
pub kept_given : (sockets : Slab Socket) (key : ℕ) (was is : Socket) (c : ℕ) → Some was ≡ get sockets key → IsSame was is × (is.may_write ≡ was.may_write)
    → IsKept (get sockets c) (get (with_value sockets key is) c)
kept_given sockets key was is c found given = kept_written sockets key was is c found (keeps_same was is given.0)

pub kept_sent : (sockets : Slab Socket) (key : ℕ) (was between is : Socket) (c : ℕ) → Some was ≡ get sockets key → IsSame was between × (between.may_write ≡ was.may_write)
    → Keeps between is → IsKept (get sockets c) (get (with_value sockets key is) c)
kept_sent sockets key was between is c found given sent = kept_written sockets key was is c found (keeps_on was between is (keeps_same was between given.0) sent)

pub has_filter : (telnet : Option Telnet) (old new : Slab Socket) (key c : ℕ) (socket : Socket) → Updates old new key (Some socket) → c ≡ key
    → (socket.telnet ≡ telnet) × (socket.channel ≡ None) → socket.input.items ≡ [] → HasFilter telnet new (Some (the.Open c))
has_filter telnet old new key c socket updates same kind empty =
    subst (λ (k : ℕ). HasFilter telnet new (Some (the.Open k))) (sym same)
    (subst (λ (slot : Option Socket). IsSomeAnd slot (λ s. (s.telnet ≡ telnet) × (s.input.items ≡ []) × (s.channel ≡ None))) (sym updates.changed) (kind.0, empty, kind.1))

-- a browser's socket, after the bytes that came with its request
pub is_browsers : (channel : Channel) (response bytes : List ℕ) (before after : Socket) → IsNew response channel
    → before.channel ≡ Some channel → after.telnet ≡ None → Hears bytes before after → IsBrowsers bytes after
is_browsers channel response bytes before after fresh had none hears =
    let heard = hears channel had in (
      none,
      response,
      channel,
      fresh,
      heard.0,
      heard.1,
      subst (λ (input : List ℕ). IsHeard (read_all opened (input ++ bytes)) channel heard.0 after.input.items) fresh.input
          (subst (λ (c : Connection). IsHeard (read_all c (channel.endpoint.input.items ++ bytes)) channel heard.0 after.input.items) fresh.context heard.2),
    )

pub is_upgraded : (old new : Slab Socket) (key c : ℕ) (bytes : List ℕ) (socket : Socket) → Updates old new key (Some socket) → c ≡ key
    → IsBrowsers bytes socket → IsUpgraded new (Some (the.Open c))
is_upgraded old new key c bytes socket updates same browsers =
    subst (λ (k : ℕ). IsUpgraded new (Some (the.Open k))) (sym same)
    (subst (λ (slot : Option Socket). IsSomeAnd slot (λ s. (b : List ℕ) × IsBrowsers b s)) (sym updates.changed) (bytes, browsers))

there : (c key : ℕ) (sockets : Slab Socket) (was : Socket) → key ≡ c → Some was ≡ get sockets key → get sockets c ≡ Some was
there c key sockets was same found = ap (λ (k : ℕ). get sockets k) (sym same) ∙ sym found

there_then : (c key : ℕ) (sockets : Slab Socket) (was is : Socket) → key ≡ c → Some was ≡ get sockets key → get (with_value sockets key is) c ≡ Some is
there_then c key sockets was is same found = ap (λ (k : ℕ). get (with_value sockets key is) k) (sym same) ∙ (written sockets key was is found).changed

-- a read that returns a piece, and one that returns nothing
pub brings_piece : (c key : ℕ) (sockets : Slab Socket) (was is : Socket) (piece : Vec ℕ) → key ≡ c → Some was ≡ get sockets key → Reads (came.Bytes piece) was is
    → Brings (get sockets c) (Some (the.Bytes c piece)) (get (with_value sockets key is) c)
brings_piece c key sockets was is piece same found reads = (was, is, there c key sockets was same found, there_then c key sockets was is same found, reads)

pub brings_nothing : (c key : ℕ) (sockets : Slab Socket) (was is : Socket) → key ≡ c → Some was ≡ get sockets key → Reads came.NothingYet was is
    → Brings (get sockets c) None (get (with_value sockets key is) c)
brings_nothing c key sockets was is same found reads = inr (was, is, there c key sockets was same found, there_then c key sockets was is same found, reads)

pub brings_same : (c key : ℕ) (sockets : Slab Socket) (was : Socket) → key ≡ c → Some was ≡ get sockets key
    → Brings (get sockets c) None (get (with_value sockets key was) c)
brings_same c key sockets was same found = inl (there_then c key sockets was was same found ∙ sym (there c key sockets was same found))

-- a look at the silence of one socket
tended_here : (now c key : ℕ) (sockets : Slab Socket) (was is : Socket) → key ≡ c → Some was ≡ get sockets key → LooksAt now was is
    → IsTended now (get sockets c) (get (with_value sockets key is) c)
tended_here now c key sockets was is same found looks =
    subst (λ (slot : Option Socket). IsTended now slot (get (with_value sockets key is) c)) (sym (there c key sockets was same found))
    (subst (λ (slot : Option Socket). IsSomeAnd slot (LooksAt now was)) (sym (there_then c key sockets was is same found)) looks)

pub tended_if : {T E : Type 0} (result : Result T E) (now c key : ℕ) (sockets : Slab Socket) (was is : Socket) → key ≡ c → Some was ≡ get sockets key
    → OnOk result (LooksAt now was is) → OnOk result (IsTended now (get sockets c) (get (with_value sockets key is) c))
tended_if (Ok value) now c key sockets was is same found looks = tended_here now c key sockets was is same found looks
tended_if (Err e) now c key sockets was is same found looks = tt

pub tended_none : (now c key : ℕ) (sockets : Slab Socket) (is : Option Socket) → key ≡ c → None ≡ get sockets key → IsTended now (get sockets c) is
tended_none now c key sockets is same none =
    subst (λ (slot : Option Socket). IsTended now slot is) (none ∙ ap (λ (k : ℕ). get sockets k) same) tt

-- bytes that came on a channel, and their payload that was taken from it
pub heard : (trace : Trace) (was mid is : Channel) (input : List ℕ) → Accepts trace was mid → mid.silence ≡ record was.silence { has_heard = true }
    → input ≡ mid.payload.items → is.payload.items ≡ [] → is.silence ≡ mid.silence → is.endpoint ≡ mid.endpoint → is.is_over ≡ mid.is_over → IsHeard trace was is input
heard trace was mid is input accepts hears input_is taken silence endpoint over = record {
  all = input_is ∙ accepts.payload;
  taken = taken;
  ends = elim accepts.ends [
    | inl ok ↦ inl (ok.0 ∙ sym (ap (λ (e : Endpoint). Ok (e.context, e.input.items)) endpoint))
    | inr err ↦ inr (subst (λ (b : Bool). IsTrue b) (sym over) err.1)
  ];
  heard = ap (λ (s : Silence). s.has_heard) silence ∙ ap (λ (s : Silence). s.has_heard) hears;
}

-- a socket with one channel hears on it
pub hears_on : (bytes : List ℕ) (old new : Socket) (was is : Channel) (payload : Vec ℕ) → old.channel ≡ Some was → new.channel ≡ Some is → new.input ≡ payload
    → IsHeard (read_all was.endpoint.context (was.endpoint.input.items ++ bytes)) was is payload.items → Hears bytes old new
hears_on bytes old new was is payload had has input heard other other_is =
    subst (λ (slot : Option Channel). IfSome slot (λ w. (i : Channel) × (new.channel ≡ Some i) × IsHeard (read_all w.endpoint.context (w.endpoint.input.items ++ bytes)) w i new.input.items))
    (sym had ∙ other_is)
    (is, has, subst (λ (v : Vec ℕ). IsHeard (read_all was.endpoint.context (was.endpoint.input.items ++ bytes)) was is v.items) (sym input) heard)

-- a socket with one channel looks at its silence
pub tends_on : (now : ℕ) (old new : Socket) (was is : Channel) → old.channel ≡ Some was → new.channel ≡ Some is → Tends now was is → LooksAt now old new
tends_on now old new was is had has tends other other_is =
    subst (λ (slot : Option Channel). IfSome slot (λ w. (i : Channel) × (new.channel ≡ Some i) × Tends now w i)) (sym had ∙ other_is) (is, has, tends)

-- a read of what was kept or has come
pub reads_on : (came : Came) (old between new : Socket) → Receives old between → Gives came between new → Reads came old new
reads_on came old between new receives gives = (between, receives, gives)

-- a socket that is given bytes, and then written to
pub fails_at : (c key : ℕ) (sockets : Slab Socket) (was between : Socket) (bytes : List ℕ) → key ≡ c → Some was ≡ get sockets key
    → waits_of between ≡ waits_of was ++ bytes → IsSame was between × (between.may_write ≡ was.may_write) → MayFail [] between → IfSome (get sockets c) (MayFail bytes)
fails_at c key sockets was between bytes same found waits kept fails =
    subst (λ (slot : Option Socket). IfSome slot (MayFail bytes)) (sym (there c key sockets was same found)) (by_kind fails)
  where
    by_kind : MayFail [] between → MayFail bytes was
    by_kind (inl text) = inl (sym kept.1 ∙ text.0, subst (λ (bs : List ℕ). 0 < length bs) (append-nil (waits_of between) ∙ waits) text.1)
    by_kind (inr channel) = inr (subst (λ (slot : Option Channel). IsSome slot) kept.0.2 channel)

pub none_fails : (c key : ℕ) (sockets : Slab Socket) (bytes : List ℕ) → key ≡ c → None ≡ get sockets key → IfSome (get sockets c) (MayFail bytes)
none_fails c key sockets bytes same none =
    subst (λ (slot : Option Socket). IfSome slot (MayFail bytes)) (none ∙ ap (λ (k : ℕ). get sockets k) same) tt

-- a write of text, and one of frames
pub text_fails : {E : Type 0} (result : Result ℕ E) (socket : Socket) → OnErr result ((socket.may_write ≡ true) × (0 < length (waits_of socket))) → OnErr result (MayFail [] socket)
text_fails (Ok count) socket fails = tt
text_fails (Err e) socket fails = inl (fails.0, subst (λ (bs : List ℕ). 0 < length bs) (sym (append-nil (waits_of socket))) fails.1)

pub frames_fail : {E : Type 0} (result : Result ℕ E) (socket : Socket) → IsSome socket.channel → OnErr result (MayFail [] socket)
frames_fail (Ok count) socket is = tt
frames_fail (Err e) socket is = inr is

-- bytes of one read came
pub received : (bytes : List ℕ) (old new : Socket) → length old.input.items ≡ 0 → 0 < length bytes → length bytes ≤ 4096 → IsInput bytes old new → Receives old new
received bytes old new empty some few input = inr (empty, bytes, some, few, input)

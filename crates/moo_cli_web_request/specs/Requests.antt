-- What a request asks for, by the grammar of its head, and which hosts and origins may ask.
use Rattle.std.specs.Prelude.{◌≡◌, ◌⊎◌, ◌≤◌, ◌<◌, ℕ, Bool, true, false, not, cond, ◌&&◌, ◌||◌, ◌==◌, nat_le, List, [], ◌∷◌, codes, bytes_eq, take, drop, map, length, count_by, Option, None, Some, Result, Ok, Err}
use Rattle.std.specs.List.{list_any, position_or_len}
use Rattle.std.specs.Global.{Vec}
use Rattle.httparse.specs.Grammar.{HasNoRequest, NeverHasRequest, ReadsRequest, RequestHead, print_request}
use Rattle.httparse.specs.Spans.{RequestExceeds, name_and_value}
use Rattle.httparse.specs.declared.spans.HeaderSpan.{HeaderSpan}
use Rattle.httparse.specs.declared.spans.RequestSpans.{RequestSpans}
use Rattle.websocket.specs.Headers.{Fields, eq_ignore_case, fields_of, header_value}
use Rattle.websocket.specs.Handshake.{IsValidKey, accept_key_of, requested_key}
use Rattle.websocket.specs.declared.handshake.failure.HandshakeError.{HandshakeError}
use Rattle.moo_cli_web_request.specs.declared.allowed.Allowed.{Allowed}
use Rattle.moo_cli_web_request.specs.declared.request.Request.{Request}
use Rattle.moo_cli_web_request.specs.declared.request.Request.TheVariants as the
use Rattle.moo_cli_web_request.specs.declared.refusal.Refusal.{Refusal}
use Rattle.moo_cli_web_request.specs.declared.refusal.Refusal.TheVariants as refused

-- the text differs from one of these in the case of letters alone
abbrev pub is_one_of : List (Vec ℕ) → List ℕ → Bool
is_one_of names text = list_any (λ name. eq_ignore_case name.items text) names

abbrev pub is_among : List (Vec ℕ) → Option (List ℕ) → Bool
is_among values None = false
is_among values (Some value) = is_one_of values value

-- the number of fields of this name
abbrev pub count_named : Fields → List ℕ → ℕ
count_named fields name = count_by (λ field. eq_ignore_case field.0 name) fields

-- there is one `Host`, or none in a request of HTTP/1.0
abbrev pub has_right_host : ℕ → Fields → Bool
has_right_host minor fields = count_named fields (codes "Host") == 1 || (count_named fields (codes "Host") == 0 && minor == 0)

-- an absolute target: it begins with `http://`, in letters of any case
abbrev pub is_absolute : List ℕ → Bool
is_absolute target = nat_le 7 (length target) && eq_ignore_case (take 7 target) (codes "http://")

-- `/` and `?` end the authority of an absolute target
abbrev pub ends_authority : ℕ → Bool
ends_authority b = b == 47 || b == 63

-- the number of bytes of the authority at the front
abbrev pub authority_length : List ℕ → ℕ
authority_length bytes = position_or_len ends_authority bytes

-- the host that a request is for: that of an absolute target, else that of the field `Host`
abbrev pub host_for : List ℕ → Fields → Option (List ℕ)
host_for target fields = cond (is_absolute target) (Some (take (authority_length (drop 7 target)) (drop 7 target))) (header_value fields (codes "Host"))

-- an absolute target that ends after its authority has the path `/`
abbrev pub or_root : List ℕ → List ℕ
or_root [] = codes "/"
or_root (b ∷ path) = b ∷ path

-- the path of a target, with its query
abbrev pub path_of : List ℕ → List ℕ
path_of target = cond (is_absolute target) (or_root (drop (authority_length (drop 7 target)) (drop 7 target))) target

-- the first field of this name has one of these values
abbrev pub is_named : Fields → List ℕ → List (Vec ℕ) → Bool
is_named fields name values = is_among values (header_value fields name)

abbrev pub fields_in : List ℕ → List HeaderSpan → RequestSpans → Fields
fields_in bytes spans head = fields_of bytes (take head.headers spans)

-- a valid key is accepted, after a head of this length; all else is no handshake
abbrev pub AcceptsKey : Result (List ℕ) HandshakeError → ℕ → Request → Type 0
AcceptsKey (Ok key) n asked = (IsValidKey key × (asked ≡ the.Upgrade (accept_key_of key) n)) ⊎ (¬ (IsValidKey key) × (asked ≡ the.Refused refused.UpgradeRequired))
AcceptsKey (Err e) n asked = asked ≡ the.Refused refused.UpgradeRequired

-- one of two facts
abbrev pub Choose : Bool → Type 0 → Type 0 → Type 0
Choose true A B = A
Choose false A B = B

-- a WebSocket is opened for a page of an allowed origin, by the handshake of RFC 6455
abbrev pub Upgrades : Allowed → List ℕ → ℕ → Fields → ℕ → Request → Type 0
Upgrades allowed method version fields n asked =
    Choose (is_named fields (codes "Origin") allowed.origins.items)
    (AcceptsKey (requested_key method version fields) n asked)
    (asked ≡ the.Refused refused.Forbidden)

-- what a head of these parts and this length asks for
abbrev pub RequestsBy : Allowed → List ℕ → List ℕ → ℕ → Fields → ℕ → Request → Type 0
RequestsBy allowed method target version fields n asked =
    Choose (not (has_right_host version fields)) (asked ≡ the.Refused refused.BadRequest)
    (Choose (not (is_among allowed.hosts.items (host_for target fields))) (asked ≡ the.Refused refused.Forbidden)
    (Choose (not (bytes_eq method (codes "GET"))) (asked ≡ the.Refused refused.MethodNotAllowed)
    (Choose (bytes_eq (path_of target) (codes "/")) (asked ≡ the.Page)
    (Choose (bytes_eq (path_of target) (codes "/ws")) (Upgrades allowed method version fields n asked)
    (asked ≡ the.Refused refused.NotFound)))))

-- what a head asks for
abbrev pub Requests : Allowed → RequestHead → Request → Type 0
Requests allowed h asked = RequestsBy allowed h.method h.target h.minor (map name_and_value h.fields) (length (print_request h)) asked

-- The bytes begin with a whole head within the limits, which asks for this.
abbrev pub HeadRequests : Allowed → List ℕ → Request → Type 0
HeadRequests allowed bytes asked =
    (h : RequestHead) × (rest : List ℕ) × ReadsRequest bytes h rest × (length h.fields ≤ 64) × (length (print_request h) ≤ 8192) × Requests allowed h asked

-- a whole head within the limits may ask for this
abbrev pub IsOfHead : Request → Type 0
IsOfHead the.Incomplete = ⊥
IsOfHead (the.Refused refused.TooLarge) = ⊥
IsOfHead asked = Unit {0}

-- what the bytes that have come ask for
abbrev pub AsksFor : Allowed → List ℕ → Request → Type 0
AsksFor allowed bytes the.Incomplete = HasNoRequest bytes × (length bytes < 8192)
AsksFor allowed bytes (the.Refused refused.TooLarge) = (8192 ≤ length bytes) ⊎ RequestExceeds 64 bytes
AsksFor allowed bytes (the.Refused refused.BadRequest) = NeverHasRequest bytes ⊎ HeadRequests allowed bytes (the.Refused refused.BadRequest)
AsksFor allowed bytes asked = HeadRequests allowed bytes asked

-- the status line of the response to a refusal
abbrev pub status_line : Refusal → List ℕ
status_line refused.BadRequest = codes "HTTP/1.1 400 Bad Request"
status_line refused.Forbidden = codes "HTTP/1.1 403 Forbidden"
status_line refused.NotFound = codes "HTTP/1.1 404 Not Found"
status_line refused.MethodNotAllowed = codes "HTTP/1.1 405 Method Not Allowed"
status_line refused.UpgradeRequired = codes "HTTP/1.1 426 Upgrade Required"
status_line refused.TooLarge = codes "HTTP/1.1 431 Request Header Fields Too Large"

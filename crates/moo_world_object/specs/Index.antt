-- The index of the verbs of an object by the first letter and the hash of a name. An open pattern is one that ends in a star.
use Rattle.std.specs.Prelude.{◌≡◌, ◌⊎◌, ℕ, ◌+◌, ◌*◌, ◌/◌, ◌%◌, ◌<◌, ◌≤◌, true, List, length, slice_index_or, bit_and}
use Rattle.moo_world_object.specs.Patterns.{fits, fits_names}
use Rattle.moo_world_object.specs.Filter.{passes, Widens}
use Rattle.moo_syntax_ast.specs.NameHash.{first_letter, hash_of}
use Rattle.moo_world_object.specs.declared.verb.Verb.{Verb}
use Rattle.moo_world_object.specs.declared.verb_index.Bucket.{Bucket}
use Rattle.moo_world_object.specs.declared.verb_index.VerbIndex.{VerbIndex}

-- the number of the bucket of names with this hash, which comes after the two buckets of open patterns
abbrev pub bucket_of : ℕ → ℕ → ℕ
bucket_of mask hash = bit_and (hash / 2) mask * 2 + hash % 2 + 2

-- an empty bucket
abbrev pub no_verbs : Bucket
no_verbs = record { first = 65535; last = 0 }

-- the bucket at j, if there is one, holds the place i
abbrev pub Holds : VerbIndex → ℕ → ℕ → Type 0
Holds index j i = j < length index.buckets.items → ((slice_index_or index.buckets.items j no_verbs).first ≤ i) × (i ≤ (slice_index_or index.buckets.items j no_verbs).last)

-- the bucket of names with this hash, or that of the open patterns of their class, holds the place i
abbrev pub IsInBucket : VerbIndex → ℕ → ℕ → Type 0
IsInBucket index hash i = Holds index (bucket_of index.mask hash) i ⊎ Holds index (hash % 2) i

-- a name passes the filter, and one of its two buckets holds the place i
abbrev pub IsListed : VerbIndex → List ℕ → ℕ → Type 0
IsListed index name i = (passes index.filter.words (first_letter name) (hash_of name) ≡ true) × IsInBucket index (hash_of name) i

-- as many buckets, each of which holds what it held, and a filter that lets pass what passed
abbrev pub Grows : VerbIndex → VerbIndex → Type 0
Grows index later = (later.mask ≡ index.mask) × (length later.buckets.items ≡ length index.buckets.items) × ((j i : ℕ) → Holds index j i → Holds later j i) × Widens index.filter.words later.filter.words

-- the place i is listed for each name that a pattern matches
abbrev pub CoversPattern : VerbIndex → List ℕ → ℕ → Type 0
CoversPattern index pattern i = (name : List ℕ) → fits pattern name ≡ true → IsListed index name i

-- the place i is listed for each name that a verb with these names has
abbrev pub Covers : VerbIndex → List ℕ → ℕ → Type 0
Covers index names i = (name : List ℕ) → fits_names names name ≡ true → IsListed index name i

-- each verb is listed for all names that match it
abbrev pub AreIndexed : VerbIndex → List Verb → Type 0
AreIndexed index verbs = (i : ℕ) (v : Verb) → i < length verbs → v ≡ slice_index_or verbs i v → Covers index v.names i

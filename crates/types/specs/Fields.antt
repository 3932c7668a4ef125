-- Records by the numbers of names and types. Assumes nothing: these are definitions.
use Rattle.std.specs.Prelude.{◌≡◌, ℕ, suc, ◌+◌, ◌<◌, ◌≤◌, Bool, true, false, not, ◌&&◌, ◌||◌, List, [], ◌∷◌, length, drop, Some, None, Option, ◌==◌, nat_le, nat_lt}
use Rattle.query.specs.Data.{pick}
use Rattle.types.specs.declared.entry.Field.{Field}
use Rattle.types.specs.declared.entry.Next.{Next}

unfoldable pub get_f : ℕ → List Field → List ℕ
get_f n [] = []
get_f n (f ∷ fs) = pick (n == f.name) (f.of ∷ []) (get_f n fs)

unfoldable pub put_f : Field → List Field → List Field
put_f f [] = f ∷ []
put_f f (g ∷ gs) = pick (f.name == g.name) (f ∷ gs) (pick (nat_lt f.name g.name) (f ∷ g ∷ gs) (g ∷ put_f f gs))

unfoldable pub both_f : List Field → List Field → List Field
both_f xs [] = xs
both_f xs (y ∷ ys) = both_f (put_f y xs) ys

-- the next field of both
pub record Stepped (xs ys : List Field) (r : Next) : Type 0 where
  pub is : both_f xs ys ≡ r.field ∷ both_f (drop r.first xs) (drop r.second ys)
  pub first : r.first ≤ length xs
  pub second : r.second ≤ length ys
  pub some : 0 < r.first + r.second

-- the first field, if there is one
abbrev pub FirstOf : List Field → Option Field → Type 0
FirstOf xs None = xs ≡ []
FirstOf xs (Some f) = xs ≡ f ∷ drop 1 xs

-- the next field of both, or there is none left
abbrev pub NextOf : List Field → List Field → Option Next → Type 0
NextOf xs ys None = (xs ≡ []) × (ys ≡ [])
NextOf xs ys (Some r) = Stepped xs ys r

-- whether a number is in a list
unfoldable pub in_f : ℕ → List ℕ → Bool
in_f n [] = false
in_f n (m ∷ ms) = n == m || in_f n ms

-- what a test came to, or the contrary
unfoldable pub as_told : Bool → Bool → Bool
as_told true b = b
as_told false b = not b

-- the fields whose names are in a list, or those whose names are not
unfoldable pub kept_f : List ℕ → Bool → List Field → List Field
kept_f ks b [] = []
kept_f ks b (f ∷ fs) = pick (as_told b (in_f f.name ks)) (f ∷ kept_f ks b fs) (kept_f ks b fs)

-- what there is, none or one
abbrev pub listed : Option ℕ → List ℕ
listed None = []
listed (Some i) = i ∷ []

-- fields of names and types one by one
unfoldable pub zip_f : List ℕ → List ℕ → List Field
zip_f [] xs = []
zip_f (k ∷ ks) [] = []
zip_f (k ∷ ks) (x ∷ xs) = record { name = k; of = x } ∷ zip_f ks xs

-- numbers that rise, from one on
unfoldable pub rise : ℕ → List ℕ → Bool
rise at [] = true
rise at (k ∷ ks) = nat_le at k && rise (suc k) ks

-- Names in order, and what is found of the soundness of types that stand in front of bytes.
use Rattle.std.specs.Prelude.{◌≡◌, ℕ, ◌≤◌, Bool, true, false, ◌&&◌, List, [], ◌∷◌, ◌++◌, length, Some, None, Option}
use Rattle.query.specs.Data.{Name, less_text}
use Rattle.query.specs.Types.{Schema}
use Rattle.query.specs.Size.{size_s, all_sound}
use Rattle.format.specs.Coding.{Coding, name, many, counted}
use Rattle.format.specs.Wire.{types}
use Rattle.format.specs.Heads.{TyHead, unit_t, num_t, truth_t, text_t, bag_t, rec_t, either_t, write_ty_head, FitsTyHead}
use Rattle.format.specs.Nodes.{TellsType}
use Rattle.format.specs.declared.node.TypeNode.{TypeNode}

-- a name comes before the first of others, if there is one
abbrev pub before_first : Name → List Name → Bool
before_first n [] = true
before_first n (m ∷ ms) = less_text n m

-- each name comes before the next
abbrev pub rising : List Name → Bool
rising [] = true
rising (n ∷ ns) = before_first n ns && rising ns

-- the names in a type's head are in order, if it has any
unfoldable pub head_sound : TyHead → Bool
head_sound unit_t = true
head_sound num_t = true
head_sound truth_t = true
head_sound text_t = true
head_sound bag_t = true
head_sound (rec_t ns) = rising ns
head_sound either_t = true

-- of something of so many bytes: that it is sound, and how many bytes it has; or that it is not
abbrev pub Finds : Bool → ℕ → Option ℕ → Type 0
Finds ok long None = ok ≡ false
Finds ok long (Some n) = (ok ≡ true) × (n ≡ long)

abbrev pub FoundWithin : ℕ → Option ℕ → Type 0
FoundWithin long None = Unit {0}
FoundWithin long (Some n) = n ≤ long

-- whichever two names stand in front of the bytes, it is told whether the first comes before the second
pub record RiseInFront (xs : List ℕ) (r : Option ℕ) : Type 0 where
  pub rises : (m n : Name) (rest : List ℕ) → name.Fits m → name.Fits n → xs ≡ name.write m ++ (name.write n ++ rest) → Finds (less_text m n) (length (name.write m)) r
  pub within : FoundWithin (length xs) r

-- whichever names stand in front of the bytes after their count, it is told whether they rise
abbrev pub NamesTold : List ℕ → Bool → Type 0
NamesTold xs r = (ns : List Name) (rest : List ℕ) → (counted name).Fits ns → xs ≡ (counted name).write ns ++ rest → r ≡ rising ns

-- the bytes are those after a head's tag: whichever head a node tells of, it is told whether its names are in order
abbrev pub HeadTold : List ℕ → TypeNode → Bool → Type 0
HeadTold xs node r = (h : TyHead) (t : ℕ) (rest : List ℕ) → FitsTyHead h → TellsType node h → t ∷ xs ≡ write_ty_head h ++ rest → r ≡ head_sound h

-- whatever schema of so many types stands in front and has no more parts than the limit, it is told whether it is sound
abbrev pub SchemaTold : ℕ → ℕ → List ℕ → Bool → Type 0
SchemaTold count limit xs r = (ss : Schema) (rest : List ℕ) → (many types count).Fits ss → xs ≡ (many types count).write ss ++ rest → size_s ss ≤ limit → r ≡ all_sound ss

-- whatever of the sort stands in front of the bytes and has no more parts than the limit, it is told whether it is sound
pub record ToldInFront (S : Coding) (size : S.T → ℕ) (ok : S.T → Bool) (limit : ℕ) (xs : List ℕ) (r : Option ℕ) : Type 0 where
  pub finds : (x : S.T) (rest : List ℕ) → S.Fits x → xs ≡ S.write x ++ rest → size x ≤ limit → Finds (ok x) (length (S.write x)) r
  pub within : FoundWithin (length xs) r

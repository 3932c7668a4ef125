-- The types of records stay sound: a field put in, left out, taken, and two joined.
use mathlib.Core.Path.{◌≡◌, refl}
use mathlib.Core.Bool.{Bool, true, false, ◌&&◌}
use mathlib.Core.List.{List, [], ◌∷◌}
use Prim.Native.Nat.{ℕ}
use native.Mathlib.Omega.{arith}
use Rattle.query.specs.Data.{pick, same_text, less_text, Name, one_of}
use Rattle.query.specs.Query.{Ty, Tys, no_ty, ty}
use Rattle.query.specs.Types.{first_after, sound, sounds, get_ty, put_ty, both_tys, left_out_ty, only_tys}
use Rattle.query.proofs.Tests.{and_l, and_r, and_i}
use Rattle.query.proofs.Texts.{same_text_true, less_else, less_trans}
use Rattle.query.proofs.TypeParts.{heads}

pub sounds_out : (n : Name) (t : Ty) (ts : Tys) → sounds (ty n t ts) ≡ true → (sound t ≡ true) × (first_after n ts ≡ true) × (sounds ts ≡ true)
unfolding sounds
sounds_out n t ts h =
    let k = and_l (sound t && first_after n ts) (sounds ts) h in
    (and_l (sound t) (first_after n ts) k, and_r (sound t) (first_after n ts) k, and_r (sound t && first_after n ts) (sounds ts) h)

pub sounds_in : (n : Name) (t : Ty) (ts : Tys) → sound t ≡ true → first_after n ts ≡ true → sounds ts ≡ true → sounds (ty n t ts) ≡ true
unfolding sounds
sounds_in n t ts h k l = and_i (sound t && first_after n ts) (sounds ts) (and_i (sound t) (first_after n ts) h k) l

pub get_sound : (n : Name) (ts : Tys) (v : Ty) (m : List Ty) → sounds ts ≡ true → get_ty n ts ≡ v ∷ m → sound v ≡ true
unfolding get_ty pick
get_sound n no_ty v m h k = let z : ◌≡◌ {A = ℕ} 0 1 = cc in absurd (omega arith)
get_sound n (ty a t ts) v m h k = by (same_text n a) k (λ l. get_sound n ts v m (sounds_out a t ts h).2 l)
  where
    by : (b : Bool) → pick b (t ∷ []) (get_ty n ts) ≡ v ∷ m → (get_ty n ts ≡ v ∷ m → sound v ≡ true) → sound v ≡ true
    by true l ih = rw (heads t v [] m l) at (sounds_out a t ts h).0
    by false l ih = ih l

-- what is left of a record comes after what the record came after
pub after_trans : (a b : Name) (ts : Tys) → less_text a b ≡ true → first_after b ts ≡ true → first_after a ts ≡ true
unfolding first_after
after_trans a b no_ty h k = refl
after_trans a b (ty c t ts) h k = less_trans a b c h k

left_out_after : (a n : Name) (ts : Tys) → first_after a ts ≡ true → sounds ts ≡ true → first_after a (left_out_ty n ts) ≡ true
unfolding first_after left_out_ty pick
left_out_after a n no_ty h k = h
left_out_after a n (ty b t ts) h k = by (same_text n b)
  where
    by : (c : Bool) → first_after a (pick c ts (ty b t (left_out_ty n ts))) ≡ true
    by true = after_trans a b ts h (sounds_out b t ts k).1
    by false = h

pub left_out_sound : (n : Name) (ts : Tys) → sounds ts ≡ true → sounds (left_out_ty n ts) ≡ true
unfolding left_out_ty pick
left_out_sound n no_ty h = h
left_out_sound n (ty a t ts) h = by (same_text n a) (left_out_sound n ts (sounds_out a t ts h).2)
  where
    by : (b : Bool) → sounds (left_out_ty n ts) ≡ true → sounds (pick b ts (ty a t (left_out_ty n ts))) ≡ true
    by true k = (sounds_out a t ts h).2
    by false k = sounds_in a t (left_out_ty n ts) (sounds_out a t ts h).0 (left_out_after a n ts (sounds_out a t ts h).1 (sounds_out a t ts h).2) k

only_after : (a : Name) (ns : List Name) (ts : Tys) → first_after a ts ≡ true → sounds ts ≡ true → first_after a (only_tys ns ts) ≡ true
unfolding first_after only_tys pick
only_after a ns no_ty h k = h
only_after a ns (ty b t ts) h k = by (one_of b ns) (only_after a ns ts (after_trans a b ts h (sounds_out b t ts k).1) (sounds_out b t ts k).2)
  where
    by : (c : Bool) → first_after a (only_tys ns ts) ≡ true → first_after a (pick c (ty b t (only_tys ns ts)) (only_tys ns ts)) ≡ true
    by true l = h
    by false l = l

pub only_sound : (ns : List Name) (ts : Tys) → sounds ts ≡ true → sounds (only_tys ns ts) ≡ true
unfolding only_tys pick
only_sound ns no_ty h = h
only_sound ns (ty a t ts) h = by (one_of a ns) (only_sound ns ts (sounds_out a t ts h).2)
  where
    by : (b : Bool) → sounds (only_tys ns ts) ≡ true → sounds (pick b (ty a t (only_tys ns ts)) (only_tys ns ts)) ≡ true
    by true k = sounds_in a t (only_tys ns ts) (sounds_out a t ts h).0 (only_after a ns ts (sounds_out a t ts h).1 (sounds_out a t ts h).2) k
    by false k = k

put_ty_after : (a n : Name) (t : Ty) (ts : Tys) → less_text a n ≡ true → first_after a ts ≡ true → first_after a (put_ty n t ts) ≡ true
unfolding first_after put_ty pick
put_ty_after a n t no_ty h k = h
put_ty_after a n t (ty b u ts) h k = by (same_text n b) (less_text n b)
  where
    by : (c c' : Bool) → first_after a (pick c (ty n t ts) (pick c' (ty n t (ty b u ts)) (ty b u (put_ty n t ts)))) ≡ true
    by true c' = h
    by false true = h
    by false false = k

pub put_sound : (n : Name) (t : Ty) (ts : Tys) → sound t ≡ true → sounds ts ≡ true → sounds (put_ty n t ts) ≡ true
unfolding put_ty pick first_after
put_sound n t no_ty h k = sounds_in n t no_ty h refl k
put_sound n t (ty b u ts) h k = by (same_text n b) (less_text n b) refl refl (put_sound n t ts h o.2)
  where
    o : (sound u ≡ true) × (first_after b ts ≡ true) × (sounds ts ≡ true)
    o = sounds_out b u ts k

    by : (c c' : Bool) → same_text n b ≡ c → less_text n b ≡ c' → sounds (put_ty n t ts) ≡ true → sounds (pick c (ty n t ts) (pick c' (ty n t (ty b u ts)) (ty b u (put_ty n t ts)))) ≡ true
    by true c' p q ih = rw (same_text_true n b p) (sounds_in b t ts h o.1 o.2)
    by false true p q ih = sounds_in n t (ty b u ts) h q k
    by false false p q ih = sounds_in b u (put_ty n t ts) o.0 (put_ty_after b n t ts (less_else n b p q) o.1) ih

pub both_sound : (ts us : Tys) → sounds ts ≡ true → sounds us ≡ true → sounds (both_tys ts us) ≡ true
unfolding both_tys
both_sound ts no_ty h k = h
both_sound ts (ty n t us) h k = both_sound (put_ty n t ts) us (put_sound n t ts (sounds_out n t us k).0 h) (sounds_out n t us k).2

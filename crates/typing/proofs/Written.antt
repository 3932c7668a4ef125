-- Types that are written out, and names.
use Rattle.std.proofs.Common.{◌≡◌, ℕ, ◌+◌, ◌<◌, ◌≤◌, Bool, true, false, ◌&&◌, List, [], ◌∷◌, ◌++◌, length, get_or, take, drop, Some, None, Option, sym, refl, ap, ◌∙◌, subst, arith, length-append, length-drop}
use Rattle.std.proofs.lemmas.List.{append-nil, drop_more}
use Rattle.query.specs.Data.{Name}
use Rattle.query.specs.Query.{Ty, a_unit, a_num, a_truth, a_text, a_bag, a_rec, an_either}
use Rattle.query.specs.Types.{sound}
use Rattle.query.specs.Size.{size_t, all_sound}
use Rattle.format.specs.Coding.{le, name}
use Rattle.format.specs.Wire.{write_ty, FitsTy}
use Rattle.format.specs.Bytes.{length_le}
use Rattle.ranks.specs.Ranks.{In, names_of, RankOf}
use Rattle.ranks.specs.Known.{KnowsTy, KnowsAll, names_t, names_all}
use Rattle.ranks.specs.declared.names.Names.{Names}
use Rattle.ranks.specs.Placed.{front_within, name_bytes}
use Rattle.types.specs.Shapes.{type_at}
use Rattle.types.specs.Operators.{types_of}
use Rattle.types.specs.Outcomes.{look, Room}
use Rattle.types.specs.declared.table.Table.{Table}
use Rattle.types.proofs.Operators.{if_yes, if_no}
use Rattle.typing.specs.Loads.{sizes, LoadTold, Loaded}
use Rattle.typing.specs.Typed.{TypeTold, NameTold}
use Rattle.typing.specs.declared.work.Work.{Work}
use Rattle.typing.proofs.TypeMade.{types_length}

ty_long : (y : Ty) → 0 < length (write_ty y)
unfolding write_ty
ty_long a_unit = omega arith
ty_long a_num = omega arith
ty_long a_truth = omega arith
ty_long a_text = omega arith
ty_long (a_bag t) = omega arith
ty_long (a_rec ts) = omega arith
ty_long (an_either t u) = omega arith

module _ (xs : List ℕ) (v : Names) (t u : Table) (w : Work) (at : ℕ) where
  one_told : (r : Option (Unit {0})) → Loaded xs v t u w at 1 r → (y : Ty) (rest : List ℕ) → FitsTy y → drop at xs ≡ write_ty y ++ rest → KnowsTy (names_of xs v) y → size_t y ≤ 8192 → Room t (size_t y) (names_t y) → LoadTold (names_of xs v) t u w (y ∷ []) r
  unfolding sizes names_all KnowsAll
  one_told r l y rest f q k s o =
      l.told (y ∷ []) rest (f, tt) refl (q ∙ ap (λ (z : List ℕ). z ++ rest) (sym (append-nil (write_ty y)))) (k, tt) (omega arith) (record { entries = omega (arith, o.entries); fields = omega (arith, o.fields) })

  sound_one : (y : Ty) (b : Bool) → all_sound (y ∷ []) ≡ b → sound y ≡ b
  unfolding all_sound
  sound_one y b e = sym (last (sound y)) ∙ e
    where
      last : (c : Bool) → c && true ≡ c
      last true = refl
      last false = refl

  pub type_none : Loaded xs v t u w at 1 None → TypeTold xs v t u at None
  unfolding sizes names_all
  type_none l y rest f q k s = record {
    few = λ o. omega (arith, (one_told None l y rest f q k s o).few);
    slim = λ o. omega (arith, (one_told None l y rest f q k s o).slim);
    means = λ o. if_no _ _ (sym (sound_one y false (one_told None l y rest f q k s o).says));
  }

  pub type_some : Loaded xs v t u w at 1 (Some tt) → 0 < length w.stack → TypeTold xs v t u at (Some (get_or w.stack 0 0))
  unfolding sizes names_all types_of
  type_some l h y rest f q k s = record {
    few = λ o. omega (arith, (one_told (Some tt) l y rest f q k s o).few);
    slim = λ o. omega (arith, (one_told (Some tt) l y rest f q k s o).slim);
    means = λ o.
        let d = (one_told (Some tt) l y rest f q k s o).says in
        let e : type_at (names_of xs v) (look u) (get_or w.stack 0 0) ∷ types_of (names_of xs v) (look u) (drop 1 w.stack) ≡ y ∷ [] =
        sym (ap (λ (z : List ℕ). types_of (names_of xs v) (look u) z) (drop_more w.stack 0 0 h)) ∙ d.1 in
        let e2 : y ≡ type_at (names_of xs v) (look u) (get_or w.stack 0 0) = cc in
        if_yes _ _ (sym (sound_one y true d.0)) ∙ ap (λ (z : Ty). z ∷ []) e2;
  }

  pub type_empty : Loaded xs v t u w at 1 (Some tt) → length w.stack ≡ 0 → TypeTold xs v t u at None
  unfolding sizes names_all
  type_empty l h y rest f q k s = record {
    few = λ o. absurd (no_way o);
    slim = λ o. absurd (no_way o);
    means = λ o. absurd (no_way o);
  }
    where
      no_way : Room t (size_t y) (names_t y) → ⊥
      no_way o =
          let d = (one_told (Some tt) l y rest f q k s o).says in
          omega (arith, ap (λ (z : List Ty). length z) d.1, types_length (names_of xs v) (look u) w.stack)

  pub type_off : length xs < at → TypeTold xs v t t at None
  type_off h y rest f q k s = record { few = λ o. absurd (no_way); slim = λ o. absurd no_way; means = λ o. absurd no_way }
    where
      no_way : ⊥
      no_way = omega (arith, length-drop at xs, ap (λ (z : List ℕ). length z) q, length-append (write_ty y) rest, ty_long y)

-- names
module _ (xs : List ℕ) (v : Names) (at n : ℕ) where
  pub name_short : (at + (4 + n) ≤ length xs → ⊥) → NameTold xs v at n None
  name_short s = record { below = tt; tells = λ m rest f e h q i. absurd (s (omega (arith, front_within xs (name.write m) rest at h q, length-append (le 4 (length m)) m, length_le 4 (length m)))) }

  pub name_ranked : (r : Option ℕ) → RankOf (names_of xs v) (take n (drop (at + 4) xs)) r → NameTold xs v at n r
  name_ranked None g = record { below = tt; tells = λ m rest f e h q i. g (subst (λ (z : Name). In (names_of xs v) z) (sym (ap (λ z. take z (drop (at + 4) xs)) (sym e) ∙ name_bytes xs rest at m q)) i) }
  name_ranked (Some k) g = record { below = g.0; tells = λ m rest f e h q i. g.1 ∙ (ap (λ z. take z (drop (at + 4) xs)) (sym e) ∙ name_bytes xs rest at m q) }

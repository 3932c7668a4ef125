-- What a type counts, from its head and the types after it; and a schema.
use Rattle.std.proofs.Common.{◌≡◌, true, ℕ, suc, ◌+◌, ◌≤◌, List, [], ◌∷◌, ◌++◌, length, Some, None, refl, ap, ◌∙◌, subst, arith}
use Rattle.query.specs.Data.{Name}
use Rattle.query.specs.Query.{Ty}
use Rattle.query.specs.Types.{Schema}
use Rattle.query.specs.Size.{size_t, size_ts, sizes, size_s}
use Rattle.format.specs.Coding.{name, many, counted}
use Rattle.format.specs.Wire.{write_names, types}
use Rattle.format.specs.Heads.{as_tys, first_ty_of, second_ty_of, TyHead, unit_t, num_t, truth_t, text_t, bag_t, rec_t, either_t, write_ty_head, FitsTyHead, ty_heads, ty_arity, build_ty}
use Rattle.format.specs.Nodes.{TellsType}
use Rattle.format.specs.declared.node.TypeNode.{TypeNode}
use Rattle.format.specs.declared.node.TypeNode.TheVariants as tn
use Rattle.parts.specs.declared.counted.Counted.{Counted}
use Rattle.parts.specs.Counts.{total, CountedInFront}
use Rattle.parts.specs.Heads.{own_t, Weighed}
use Rattle.parts.proofs.Fronts.{Weights, asks_nothing}
use Rattle.parts.proofs.Aparts.{ty_parted}
use Rattle.parts.proofs.Walk.{total_none}
use Rattle.parts.proofs.Owns.{tail_of, weighed_as, Holds}

all_fields : (ns : List Name) (ts : List Ty) → length ts ≡ length ns → size_ts (as_tys ns ts) ≡ sizes ns + total size_t ts
unfolding size_ts as_tys sizes
all_fields [] [] e = refl
all_fields [] (t ∷ ts) e = absurd (omega (arith, e))
all_fields (n ∷ ns) [] e = absurd (omega (arith, e))
all_fields (n ∷ ns) (t ∷ ts) e = omega (arith, all_fields ns ts (omega (arith, e)))

one_size : (ts : List Ty) → length ts ≡ 1 → size_t (first_ty_of ts) ≡ total size_t ts
unfolding first_ty_of
one_size [] e = absurd (omega (arith, e))
one_size (t ∷ ts) e = omega (arith, total_none size_t ts (omega (arith, e)))

two_size : (ts : List Ty) → length ts ≡ 2 → size_t (first_ty_of ts) + size_t (second_ty_of ts) ≡ total size_t ts
unfolding first_ty_of second_ty_of
two_size [] e = absurd (omega (arith, e))
two_size (t ∷ ts) e = omega (arith, one_size ts (omega (arith, e)))

pub ty_sizing : (h : TyHead) (ts : List Ty) → length ts ≡ ty_arity h → size_t (build_ty h ts) ≡ suc (own_t h + total size_t ts)
unfolding size_t own_t build_ty ty_arity
ty_sizing unit_t ts e = omega (arith, total_none size_t ts e)
ty_sizing num_t ts e = omega (arith, total_none size_t ts e)
ty_sizing truth_t ts e = omega (arith, total_none size_t ts e)
ty_sizing text_t ts e = omega (arith, total_none size_t ts e)
ty_sizing bag_t ts e = omega (arith, one_size ts e)
ty_sizing (rec_t ns) ts e = omega (arith, all_fields ns ts e)
ty_sizing either_t ts e = omega (arith, two_size ts e)

abbrev pub ty_weights : Weights
ty_weights = record { S = types; H = ty_heads; arity = ty_arity; build = build_ty; parted = ty_parted; size = size_t; own = own_t; holds = (λ _. true); good = (λ _. true); sizing = ty_sizing; holding = (λ h us e. asks_nothing us) }

-- what the code's nodes say of what a head counts of its own
own_of_rest : (node : TypeNode) (h : TyHead) → ((k : ℕ) → node ≡ tn.Record k → ⊥) → TellsType node h → own_t h ≡ 0
unfolding own_t
own_of_rest tn.Nothing h q t = ap own_t t
own_of_rest tn.Number h q t = ap own_t t
own_of_rest tn.Truth h q t = ap own_t t
own_of_rest tn.Text h q t = ap own_t t
own_of_rest tn.Bag h q t = ap own_t t
own_of_rest (tn.Record k) h q t = absurd (q k refl)
own_of_rest tn.Either h q t = ap own_t t

module _ (limit : ℕ) (xs : List ℕ) (node : TypeNode) where
  pub own_nothing : ((k : ℕ) → node ≡ tn.Record k → ⊥) → Weighed ty_heads TellsType own_t limit xs node (Some 0)
  own_nothing a = weighed_as ty_heads TellsType own_t limit xs node 0 (Some 0) (λ h s. own_of_rest node h a s) (refl, omega arith)

  pub own_names : (k : ℕ) → node ≡ tn.Record k → Holds ty_heads TellsType own_t limit xs node (counted name) sizes 0
  unfolding own_t FitsTyHead write_ty_head
  own_names k e h t rest f s q =
      let s' = subst (λ (w : TypeNode). TellsType w h) e s in
      let ns = s'.0 in
      let p : t ∷ xs ≡ 5 ∷ (write_names ns ++ rest) = subst (λ (v : TyHead). t ∷ xs ≡ write_ty_head v ++ rest) s'.1 q in
      record { thing = ns; fits = subst FitsTyHead s'.1 f; is = tail_of t 5 xs (write_names ns ++ rest) p; own_is = ap own_t s'.1 ∙ (let z : sizes ns ≡ 0 + sizes ns = omega arith in z) }

-- a schema counts one for each type besides
schema_size : (ss : Schema) → size_s ss ≡ length ss + total size_t ss
unfolding size_s
schema_size [] = refl
schema_size (t ∷ ts) = omega (arith, schema_size ts)

module _ (limit count : ℕ) (xs : List ℕ) where
  pub schema_none : (count ≤ limit → ⊥) → CountedInFront (many types count) size_s limit xs None
  schema_none h = record { counts = λ ss rest f q. omega (arith, schema_size ss, f.0); bounded = tt }

  module _ (left : ℕ) (h : count + left ≡ limit) where
    pub schema_over : CountedInFront (many types count) (total size_t) left xs None → CountedInFront (many types count) size_s limit xs None
    schema_over c = record { counts = λ ss rest f q. omega (arith, c.counts ss rest f q, schema_size ss, f.0); bounded = tt }

    pub schema_done : (c : Counted) → CountedInFront (many types count) (total size_t) left xs (Some c) → CountedInFront (many types count) size_s limit xs (Some record { parts = count + c.parts; length = c.length })
    schema_done c g =
        record {
          counts = λ ss rest f q. let k = g.counts ss rest f q in (omega (arith, k.0, schema_size ss, f.0), omega (arith, k.1, schema_size ss, f.0), k.2);
          bounded = (omega (arith, g.bounded), g.bounded.1);
        }

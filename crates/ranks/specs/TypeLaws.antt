-- What is to be shown of types, as a sort of thing with names in its heads.
use Rattle.std.specs.Prelude.{◌≡◌, ℕ, suc, ◌+◌, ◌≤◌, List, [], ◌∷◌, ◌++◌, length, drop}
use Rattle.std.proofs.Common.{sym, ap, ◌∙◌, subst, arith, length-append}
use Rattle.format.specs.Coding.{writes}
use Rattle.format.specs.Wire.{types}
use Rattle.format.specs.Heads.{TyHead, write_ty_head, ty_heads, ty_arity}
use Rattle.format.specs.Reading.{ReadAs, Opened, Unopened}
use Rattle.format.specs.Nodes.{TellsType}
use Rattle.format.specs.declared.node.TypeNode.{TypeNode}
use Rattle.format.specs.Lists.{from, from_drop}
use Rattle.format.specs.Trees.{fits_append}
use Rattle.format.specs.TypeLaws.{ty_laws}
use Rattle.ranks.specs.Ranks.{names_of}
use Rattle.ranks.specs.Known.{KnowsAll, names_all, head_names, Kept, HeadTaken, TypesTaken}
use Rattle.ranks.specs.Naming.{NamedLaws}
use Rattle.ranks.specs.declared.names.Names.{Names}
use Rattle.ranks.specs.Parts.{parts_told}
use Rattle.ranks.specs.Placed.{read_same, read_next}
use Rattle.ranks.specs.TypeHeads.{head_ty, kids_ty, kids_many, head_fits, kids_fit, forest, kids_names, names_append, ty_known, knows_append, all_in_more}

module _ (xs : List ℕ) (v u w : Names) (at k parts e : ℕ) (node : TypeNode) (h : at ≤ length xs) (o : Opened types (from at xs) parts e) (r : ReadAs ty_heads (from at xs) e (TellsType node)) where
  type_step : Kept xs v u → HeadTaken xs v u at node → Kept xs u w → TypesTaken xs u w (at + e) (k + parts) → TypesTaken xs v w at (suc k)
  unfolding names_all KnowsAll
  type_step kv ht ku run [] rest f m q = absurd (omega arith)
  type_step kv ht ku run (t ∷ ts) rest f m q =
      let q2 : drop at xs ≡ write_ty_head (head_ty t) ++ (writes types (kids_ty t ++ ts) ++ rest) = q ∙ forest t ts rest in
      let hf = head_fits t f.0 in
      let same : r.thing ≡ head_ty t = read_same ty_heads ty_laws.one_way xs at e r.thing (head_ty t) _ h hf q2 r.begins in
      let tk = ht (head_ty t) _ (subst (λ (z : TyHead). TellsType node z) same r.says) hf q2 in
      let ar : parts ≡ length (kids_ty t) = parts_told types ty_heads ty_arity ty_laws (from at xs) parts e r.thing r.begins o ∙ (ap ty_arity same ∙ sym (kids_many t)) in
      let la = length-append (kids_ty t) ts in
      let n = (read_next ty_heads ty_laws.one_way xs at e r.thing (head_ty t) _ h hf q2 r.begins).rest in
      let go = run (kids_ty t ++ ts) rest (fits_append types (kids_ty t) ts (kids_fit t f.0) f.1) (omega arith) n in
      let nt = kids_names t in
      let na = names_append (kids_ty t) ts in
      let tf = tk.few in
      record {
        few = omega (arith, go.few);
        knows = λ b.
            let k2 = knows_append (names_of xs w) (kids_ty t) ts (go.knows (omega arith)) in
            (ty_known (names_of xs w) t (all_in_more (names_of xs u) (names_of xs w) ku.among (head_names (head_ty t)) (tk.knows (omega arith))) k2.0, k2.1);
      }

type_stuck : (xs : List ℕ) (v : Names) (at k p : ℕ) → Unopened types (from at xs) p → TypesTaken xs v v at (suc k)
type_stuck xs v at k p s ts rest f m q = absurd (s.closed k rest (record { things = ts; fits = f; many = m; is = from_drop at xs ∙ q }))

no_types : (xs : List ℕ) (v : Names) (at : ℕ) → TypesTaken xs v v at 0
unfolding names_all KnowsAll
no_types xs v at [] rest f m q = record { few = omega arith; knows = λ b. tt }
no_types xs v at (t ∷ ts) rest f m q = absurd (omega arith)

pub types_named : NamedLaws types (λ n xs e. ReadAs ty_heads xs e (TellsType n)) HeadTaken TypesTaken
types_named = record { step = type_step; stuck = type_stuck; none = no_types }

-- The names of types, gathered head by head.
use Rattle.std.proofs.Common.{◌≡◌, ℕ, suc, ◌+◌, ◌≤◌, List, [], ◌∷◌, ◌++◌, length, drop, sym, refl, ap, ◌∙◌, subst, arith}
use Rattle.std.proofs.lemmas.List.{append_assoc}
use Rattle.query.specs.Data.{Name}
use Rattle.format.specs.Coding.{le, name, writes}
use Rattle.format.specs.Heads.{TyHead, rec_t, write_ty_head, FitsTyHead}
use Rattle.format.specs.Nodes.{TellsType}
use Rattle.format.specs.declared.node.TypeNode.{TypeNode}
use Rattle.format.specs.declared.node.TypeNode.TheVariants as tn
use Rattle.format.specs.Bytes.{length_le}
use Rattle.ranks.specs.Ranks.{names_of}
use Rattle.ranks.specs.Known.{AllIn, head_names, Took, NamesTaken, HeadTaken}
use Rattle.ranks.specs.declared.names.Names.{Names}
use Rattle.ranks.specs.Placed.{after_front, front_within}

-- heads
took_nothing : (xs : List ℕ) (v : Names) (ms : List Name) → ms ≡ [] → Took xs v v (length ms) (λ ns. AllIn ns ms)
unfolding AllIn
took_nothing xs v ms e = record { few = omega arith; knows = λ o. subst (λ (z : List Name). AllIn (names_of xs v) z) (sym e) tt }

plain : (node : TypeNode) → ((k : ℕ) → node ≡ tn.Record k → ⊥) → (h : TyHead) → TellsType node h → head_names h ≡ []
unfolding head_names
plain tn.Nothing n h e = ap (λ (z : TyHead). head_names z) e
plain tn.Number n h e = ap (λ (z : TyHead). head_names z) e
plain tn.Truth n h e = ap (λ (z : TyHead). head_names z) e
plain tn.Text n h e = ap (λ (z : TyHead). head_names z) e
plain tn.Bag n h e = ap (λ (z : TyHead). head_names z) e
plain (tn.Record k) n h e = absurd (n k refl)
plain tn.Either n h e = ap (λ (z : TyHead). head_names z) e

pub head_plain : (xs : List ℕ) (v : Names) (at : ℕ) (node : TypeNode) → ((k : ℕ) → node ≡ tn.Record k → ⊥) → HeadTaken xs v v at node
head_plain xs v at node n h rest t f q = took_nothing xs v (head_names h) (plain node n h t)

-- where the names of a record's head stand
pub rec_front : (xs : List ℕ) (at : ℕ) (ms : List Name) (rest : List ℕ) → drop at xs ≡ write_ty_head (rec_t ms) ++ rest → drop (at + 5) xs ≡ writes name ms ++ rest
unfolding write_ty_head
rec_front xs at ms rest q =
    let w = 5 ∷ le 4 (length ms) in
    let r : drop at xs ≡ w ++ (writes name ms ++ rest) = q ∙ ap (λ (z : List ℕ). 5 ∷ z) (append_assoc (le 4 (length ms)) (writes name ms) rest) in
    ap (λ k. drop (at + suc k) xs) (sym (length_le 4 (length ms))) ∙ after_front xs w (writes name ms ++ rest) at r

pub rec_long : (xs : List ℕ) (at : ℕ) (ms : List Name) (rest : List ℕ) → at ≤ length xs → drop at xs ≡ write_ty_head (rec_t ms) ++ rest → at + 5 ≤ length xs
unfolding write_ty_head
rec_long xs at ms rest h q =
    let w = 5 ∷ le 4 (length ms) in
    let r : drop at xs ≡ w ++ (writes name ms ++ rest) = q ∙ ap (λ (z : List ℕ). 5 ∷ z) (append_assoc (le 4 (length ms)) (writes name ms) rest) in
    let l : suc (length (le 4 (length ms))) ≡ 5 = ap suc (length_le 4 (length ms)) in
    omega (arith, front_within xs w (writes name ms ++ rest) at h r)

pub head_rec : (xs : List ℕ) (v u : Names) (at k : ℕ) (node : TypeNode) → node ≡ tn.Record k → at ≤ length xs → (at + 5 ≤ length xs → NamesTaken xs v u (at + 5) k) → HeadTaken xs v u at node
unfolding head_names FitsTyHead
head_rec xs v u at k node e l n h rest t f q = go (subst (λ (z : TypeNode). TellsType z h) e t)
  where
    go : (ms : List Name) × (h ≡ rec_t ms) × (length ms ≡ k) → Took xs v u (length (head_names h)) (λ ns. AllIn ns (head_names h))
    go t =
        let ms = t.0 in
        let q2 = q ∙ ap (λ (z : TyHead). write_ty_head z ++ rest) t.1 in
        let r = n (rec_long xs at ms rest l q2) ms rest (subst (λ (z : TyHead). FitsTyHead z) t.1 f).1 t.2 (rec_front xs at ms rest q2) in
        let s = subst (λ (w : ℕ). Took xs v u w (λ ns. AllIn ns ms)) (sym t.2) r in
        subst (λ (z : TyHead). Took xs v u (length (head_names z)) (λ ns. AllIn ns (head_names z))) (sym t.1) s

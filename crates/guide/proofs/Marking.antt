-- What each way through the writing of a guide leaves.
use Rattle.std.proofs.Common.{◌≡◌, ℕ, suc, ◌+◌, ◌-◌, ◌<◌, ◌≤◌, ◌≢◌, ◌⊎◌, List, [], ◌∷◌, ◌++◌, length, get_or, drop, set, Some, None, Option, sym, refl, ap, ◌∙◌, subst, inl, inr, ⊎_elim, arith, length-append, length-drop}
use Rattle.std.proofs.lemmas.List.{append_assoc, drop-drop, drop_at, get_or-set_same, get_or-set_other}
use Rattle.query.specs.Data.{Data}
use Rattle.query.specs.Query.{Ty, Query, table, it, env, just, two, one, each, keep, product, matched, default, as_left, as_right, either, then, with_env}
use Rattle.format.specs.Coding.{writes}
use Rattle.format.specs.Wire.{write_ty, write_data, write_query, queries}
use Rattle.format.specs.Heads.{QueryHead, just_q, write_query_head, query_heads, query_arity, build_query}
use Rattle.format.specs.Nodes.{NodeRead, TellsQuery}
use Rattle.format.specs.declared.node.QueryNode.{QueryNode}
use Rattle.format.specs.declared.node.QueryNode.TheVariants as qn
use Rattle.format.specs.Lists.{from, from_drop}
use Rattle.format.proofs.Pairs.{written_length}
use Rattle.format.specs.QueryLaws.{query_laws}
use Rattle.guide.specs.Guide.{first_part, last_part, Guided}
use Rattle.guide.specs.Marks.{Markable, Marked, Noted}
use Rattle.guide.proofs.Shapes.{parts, single, pair, single_long, pair_long}
use Rattle.guide.proofs.Frame.{written_some, guided_same}
use Rattle.guide.proofs.Heads.{head_of, parts_many, built, Found, found, one_of, two_of, few_parts}
use Rattle.guide.proofs.Sizes.{nesting_some}

-- a number that was written is there, and the others are as they were
at_place : (g h : List ℕ) (at v : ℕ) → h ≡ set g at v → at < length g → get_or h at 0 ≡ v
at_place g h at v e l = ap (λ (u : List ℕ). get_or u at 0) e ∙ get_or-set_same g at v 0 l

elsewhere : (g h : List ℕ) (at v i : ℕ) → h ≡ set g at v → i ≢ at → get_or h i 0 ≡ get_or g i 0
elsewhere g h at v i e n = ap (λ (u : List ℕ). get_or u i 0) e ∙ get_or-set_other g at i v 0 n

-- where nothing was found, no query could be
pub unmarked : (xs g h : List ℕ) (at limit : ℕ) → length h ≡ length g → ((q : Query) (rest : List ℕ) → Markable xs (length g) at limit q rest → ⊥) → Marked xs g h at limit None
unmarked xs g h at limit l f = record { marks = f; within = tt; same_length = l; kept = tt }

pub no_limit : (xs : List ℕ) (room at limit : ℕ) (q : Query) (rest : List ℕ) → (limit ≡ 0) ⊎ (room ≤ at) → Markable xs room at limit q rest → ⊥
no_limit xs room at limit q rest c m = ⊎_elim (λ z. omega (arith, m.shallow, nesting_some q)) (λ z. omega (arith, m.within, written_some q)) c

-- a node that was read is that of what is written out
just_is : (node : QueryNode) (k : ℕ) (q : Query) → node ≡ qn.Just k → TellsQuery node (head_of q) → (t : Ty) × (d : Data) × (q ≡ just t d) × (length (write_ty t) ≡ k)
unfolding build_query
just_is node k q e tells =
    let w = subst (λ (v : QueryNode). TellsQuery v (head_of q)) e tells in
    (w.0, w.1, built q ∙ ap (λ (v : QueryHead). build_query v (parts q)) w.2, w.3)

just_guided : (g : List ℕ) (at k : ℕ) (q : Query) → ((t : Ty) × (d : Data) × (q ≡ just t d) × (length (write_ty t) ≡ k)) → get_or g at 0 ≡ 1 + k → Guided g at q
unfolding Guided last_part
just_guided g at k q j e = subst (λ (v : Query). Guided g at v) (sym j.2) (e ∙ ap (λ (v : ℕ). 1 + v) (sym j.3))

just_written : (t : Ty) (d : Data) → length (write_query (just t d)) ≡ suc (length (write_ty t) + length (write_data d))
unfolding write_query
just_written t d = ap suc (length-append (write_ty t) (write_data d))

just_long : (k : ℕ) (q : Query) → ((t : Ty) × (d : Data) × (q ≡ just t d) × (length (write_ty t) ≡ k)) → 1 + k ≤ length (write_query q)
just_long k q j = omega (arith, ap (λ (v : Query). length (write_query v)) j.2, just_written j.0 j.1, j.3)

-- what is written out is told by no other node
other_heads : (node : QueryNode) (t : Ty) (d : Data) → TellsQuery node (just_q t d) → (k : ℕ) × (node ≡ qn.Just k)
other_heads (qn.Table n) t d e = absurd (let z : ◌≡◌ {A = ℕ} 0 1 = cc in omega arith)
other_heads qn.It t d e = absurd (let z : ◌≡◌ {A = ℕ} 0 1 = cc in omega arith)
other_heads qn.Env t d e = absurd (let z : ◌≡◌ {A = ℕ} 0 1 = cc in omega arith)
other_heads (qn.Just k) t d e = (k, refl)
other_heads (qn.Two o) t d e = absurd (let z : ◌≡◌ {A = ℕ} 0 1 = cc in omega arith)
other_heads (qn.One u) t d e = absurd (let f = e.1 in let z : ◌≡◌ {A = ℕ} 0 1 = cc in omega arith)
other_heads qn.Each t d e = absurd (let z : ◌≡◌ {A = ℕ} 0 1 = cc in omega arith)
other_heads qn.Keep t d e = absurd (let z : ◌≡◌ {A = ℕ} 0 1 = cc in omega arith)
other_heads qn.Product t d e = absurd (let z : ◌≡◌ {A = ℕ} 0 1 = cc in omega arith)
other_heads (qn.Matched j k) t d e = absurd (let f = e.2 in let z : ◌≡◌ {A = ℕ} 0 1 = cc in omega arith)
other_heads qn.Default t d e = absurd (let z : ◌≡◌ {A = ℕ} 0 1 = cc in omega arith)
other_heads (qn.OnLeft k) t d e = absurd (let f = e.1 in let z : ◌≡◌ {A = ℕ} 0 1 = cc in omega arith)
other_heads (qn.OnRight k) t d e = absurd (let f = e.1 in let z : ◌≡◌ {A = ℕ} 0 1 = cc in omega arith)
other_heads qn.Either t d e = absurd (let z : ◌≡◌ {A = ℕ} 0 1 = cc in omega arith)
other_heads qn.Then t d e = absurd (let z : ◌≡◌ {A = ℕ} 0 1 = cc in omega arith)
other_heads qn.WithEnv t d e = absurd (let z : ◌≡◌ {A = ℕ} 0 1 = cc in omega arith)

bare_guided : (node : QueryNode) (q : Query) (g : List ℕ) (at : ℕ) → TellsQuery node (head_of q) → ((k : ℕ) → node ≡ qn.Just k → ⊥) → length (parts q) ≡ 0 → Guided g at q
unfolding Guided
bare_guided node (table n) g at e f z = tt
bare_guided node it g at e f z = tt
bare_guided node env g at e f z = tt
bare_guided node (just t d) g at e f z = absurd (let o = other_heads node t d e in f o.0 o.1)
bare_guided node (two o p q) g at e f z = absurd (omega (arith, z))
bare_guided node (one o q) g at e f z = absurd (omega (arith, z))
bare_guided node (each p q) g at e f z = absurd (omega (arith, z))
bare_guided node (keep p q) g at e f z = absurd (omega (arith, z))
bare_guided node (product p q) g at e f z = absurd (omega (arith, z))
bare_guided node (matched m n p q) g at e f z = absurd (omega (arith, z))
bare_guided node (default p q) g at e f z = absurd (omega (arith, z))
bare_guided node (as_left t q) g at e f z = absurd (omega (arith, z))
bare_guided node (as_right t q) g at e f z = absurd (omega (arith, z))
bare_guided node (either p q) g at e f z = absurd (omega (arith, z))
bare_guided node (then p q) g at e f z = absurd (omega (arith, z))
bare_guided node (with_env p q) g at e f z = absurd (omega (arith, z))

module _ (xs g : List ℕ) (at limit : ℕ) (node : QueryNode) (k e : ℕ) (r : NodeRead query_heads query_arity TellsQuery xs node k e) where
  some_head : 0 < e
  some_head = omega (arith, query_laws.long r.thing r.begins.fits, written_length query_heads xs e r.thing r.begins)

  pub just_short : (t : ℕ) → node ≡ qn.Just t → 1 + t ≤ length xs
  unfolding write_query_head
  just_short t i =
      let w = subst (λ (v : QueryNode). TellsQuery v r.thing) i r.says.0 in
      let l : length (write_query_head (just_q w.0 w.1)) ≡ e = ap (λ (v : QueryHead). length (write_query_head v)) (sym w.2) ∙ written_length query_heads xs e r.thing r.begins in
      omega (arith, l, length-append (write_ty w.0) (write_data w.1), w.3, r.begins.within)

  module _ (q : Query) (rest : List ℕ) (m : Markable xs (length g) at limit q rest) where
    front : Found xs e r.thing q rest
    front = found xs e r.thing q rest r.begins m.fits m.is

    told : TellsQuery node (head_of q)
    told = subst (λ (v : QueryHead). TellsQuery node v) front.same r.says.0

    counted : length (parts q) ≡ k
    counted = parts_many q ∙ ap query_arity (sym front.same) ∙ sym r.says.1

  -- no parts
  leaf_long : (q : Query) (rest : List ℕ) → Markable xs (length g) at limit q rest → k ≡ 0 → e ≡ length (write_query q)
  leaf_long q rest m z = go (parts q) (counted q rest m ∙ z) (front q rest m).long
    where
      go : (ps : List Query) → length ps ≡ 0 → length (write_query q) ≡ e + length (writes queries ps) → e ≡ length (write_query q)
      go [] a b = omega (arith, b)
      go (p ∷ ps) a b = absurd (omega (arith, a))

  pub bare_marked : k ≡ 0 → ((t : ℕ) → node ≡ qn.Just t → ⊥) → Marked xs g g at limit (Some e)
  bare_marked z f =
      record {
        marks = λ q rest m. (leaf_long q rest m z, bare_guided node q g at (told q rest m) f (counted q rest m ∙ z));
        within = r.begins.within;
        same_length = refl;
        kept = λ i c. refl;
      }

  pub just_marked : (h : List ℕ) (t : ℕ) (s : Option ℕ) → k ≡ 0 → node ≡ qn.Just t → length h ≡ length g → Noted g h at (1 + t) e s → Marked xs g h at limit s
  just_marked h t None z i l n =
      unmarked xs g h at limit l
      (λ q rest m.
      let j = just_is node t q i (told q rest m) in
      let w = just_long t q j in
      ⊎_elim (λ a. omega (arith, m.short)) (λ a. omega (arith, m.within, written_some q)) n)
  just_marked h t (Some s) z i l n =
      let some = some_head in
      record {
        marks = λ q rest m. (n.0 ∙ leaf_long q rest m z, just_guided h at t q (just_is node t q i (told q rest m)) (at_place g h at (1 + t) n.3 n.2));
        within = omega (arith, n.0, r.begins.within);
        same_length = l;
        kept = λ j c. elsewhere g h at (1 + t) j n.3 (⊎_elim (λ a b. omega arith) (λ a b. omega (arith, n.0)) c);
      }

  -- one part
  record Below (q : Query) (rest : List ℕ) : Type 0 where
    pub p : Query
    pub is : parts q ≡ p ∷ []
    pub first : first_part q ≡ e
    pub markable : Markable (from e xs) (length g) (at + e) (limit - 1) p rest

  below : k ≡ 1 → (q : Query) (rest : List ℕ) → Markable xs (length g) at limit q rest → Below q rest
  below z q rest m =
      let o = one_of (parts q) (counted q rest m ∙ z) in
      let p = o.0 in
      let s = single q p o.1 in
      let w : writes queries (parts q) ≡ write_query p ++ [] = ap (writes queries) o.1 in
      let f = front q rest m in
      let a : length (writes queries (parts q)) ≡ length (write_query p) + 0 = ap length w ∙ length-append (write_query p) [] in
      let b = single_long q p s in
      let l : first_part q ≡ e = omega (arith, f.long) in
      record {
        p = p;
        is = o.1;
        first = l;
        markable =
            record {
              fits = s.fits m.fits;
              is = from_drop e xs ∙ f.after ∙ ap (λ (v : List ℕ). v ++ rest) w ∙ append_assoc (write_query p) [] rest;
              within = omega (arith, m.within);
              short = omega (arith, m.short);
              shallow = omega (arith, s.nested, m.shallow);
            };
      }

  pub one_unmarked : (h : List ℕ) → k ≡ 1 → Marked (from e xs) g h (at + e) (limit - 1) None → Marked xs g h at limit None
  one_unmarked h z a = unmarked xs g h at limit a.same_length (λ q rest m. let b = below z q rest m in a.marks b.p rest b.markable)

  pub one_marked : (g₁ h : List ℕ) (n : ℕ) (s : Option ℕ) → k ≡ 1 → Marked (from e xs) g g₁ (at + e) (limit - 1) (Some n) → length h ≡ length g₁ → Noted g₁ h at e (e + n) s → Marked xs g h at limit s
  one_marked g₁ h n None z a l c =
      unmarked xs g h at limit (l ∙ a.same_length)
      (λ q rest m.
      let b = below z q rest m in
      let t = single_long q b.p (single q b.p b.is) in
      ⊎_elim (λ u. omega (arith, m.short, b.first)) (λ u. omega (arith, m.within, written_some q, a.same_length)) c)
  one_marked g₁ h n (Some s) z a l c =
      let some = some_head in
      record {
        marks = λ q rest m.
            let b = below z q rest m in
            let x = single q b.p b.is in
            let d = a.marks b.p rest b.markable in
            let t = single_long q b.p x in
            let last : last_part q ≡ e = x.last ∙ sym x.first ∙ b.first in (
              omega (arith, c.0, d.0, b.first),
              x.into h at (at_place g₁ h at e c.3 c.2 ∙ sym last)
                  (subst (λ (v : ℕ). Guided h (at + v) b.p) (sym last) (guided_same b.p g₁ h (at + e) (λ i u v. elsewhere g₁ h at e i c.3 (λ w. omega arith)) d.1)),
            );
        within = omega (arith, c.0, a.within, ap length (from_drop e xs), length-drop e xs, r.begins.within);
        same_length = l ∙ a.same_length;
        kept = λ i u.
            elsewhere g₁ h at e i c.3 (⊎_elim (λ v w. omega arith) (λ v w. omega (arith, c.0)) u)
            ∙ a.kept i (⊎_elim (λ v. inl (omega arith)) (λ v. inr (omega (arith, c.0))) u);
      }

  -- two parts
  record Both (q : Query) (rest : List ℕ) : Type 0 where
    pub p₁ : Query
    pub p₂ : Query
    pub is : parts q ≡ p₁ ∷ p₂ ∷ []
    pub first : first_part q ≡ e
    pub markable : Markable (from e xs) (length g) (at + e) (limit - 1) p₁ (write_query p₂ ++ rest)
    pub next : (room n : ℕ) → room ≡ length g → n ≡ length (write_query p₁) → Markable (from (e + n) xs) room (at + (e + n)) (limit - 1) p₂ rest

  both : 2 ≤ k → (q : Query) (rest : List ℕ) → Markable xs (length g) at limit q rest → Both q rest
  both z q rest m =
      let few = few_parts q in
      let o = two_of (parts q) (omega (arith, counted q rest m)) in
      let p₁ = o.0 in
      let p₂ = o.1 in
      let s = pair q p₁ p₂ o.2 in
      let w : writes queries (parts q) ≡ write_query p₁ ++ (write_query p₂ ++ []) = ap (writes queries) o.2 in
      let f = front q rest m in
      let a : length (writes queries (parts q)) ≡ length (write_query p₁) + length (write_query p₂ ++ []) = ap length w ∙ length-append (write_query p₁) (write_query p₂ ++ []) in
      let c = length-append (write_query p₂) [] in
      let b = pair_long q p₁ p₂ s in
      let d : last_part q ≡ first_part q + length (write_query p₁) = s.last ∙ ap (λ (v : ℕ). v + length (write_query p₁)) (sym s.first) in
      let l : first_part q ≡ e = omega (arith, f.long) in
      let after : drop e xs ≡ write_query p₁ ++ (write_query p₂ ++ rest)
      = f.after ∙ ap (λ (v : List ℕ). v ++ rest) w ∙ append_assoc (write_query p₁) (write_query p₂ ++ []) rest ∙ ap (λ (v : List ℕ). write_query p₁ ++ v) (append_assoc (write_query p₂) [] rest) in
      record {
        p₁ = p₁;
        p₂ = p₂;
        is = o.2;
        first = l;
        markable =
            record {
              fits = (s.fits m.fits).0;
              is = from_drop e xs ∙ after;
              within = omega (arith, m.within);
              short = omega (arith, m.short);
              shallow = omega (arith, s.nested, m.shallow);
            };
        next = λ room n i j.
            record {
              fits = (s.fits m.fits).1;
              is = from_drop (e + n) xs ∙ sym (drop-drop n e xs) ∙ ap (drop n) after ∙ drop_at (write_query p₁) (write_query p₂ ++ rest) n (sym j);
              within = omega (arith, m.within);
              short = omega (arith, m.short);
              shallow = omega (arith, s.nested, m.shallow);
            };
      }

  pub first_unmarked : (h : List ℕ) → 2 ≤ k → Marked (from e xs) g h (at + e) (limit - 1) None → Marked xs g h at limit None
  first_unmarked h z a = unmarked xs g h at limit a.same_length (λ q rest m. let b = both z q rest m in a.marks b.p₁ (write_query b.p₂ ++ rest) b.markable)

  module _ (g₁ : List ℕ) (n : ℕ) (z : 2 ≤ k) (a : Marked (from e xs) g g₁ (at + e) (limit - 1) (Some n)) where
    pub last_unmarked : (h : List ℕ) → Marked (from (e + n) xs) g₁ h (at + (e + n)) (limit - 1) None → Marked xs g h at limit None
    last_unmarked h c =
        unmarked xs g h at limit (c.same_length ∙ a.same_length)
        (λ q rest m.
        let b = both z q rest m in
        let d = a.marks b.p₁ (write_query b.p₂ ++ rest) b.markable in
        c.marks b.p₂ rest (b.next (length g₁) n a.same_length d.0))

    pub two_marked : (g₂ h : List ℕ) (o : ℕ) (s : Option ℕ) → Marked (from (e + n) xs) g₁ g₂ (at + (e + n)) (limit - 1) (Some o) → length h ≡ length g₂ → Noted g₂ h at (e + n) ((e + n) + o) s → Marked xs g h at limit s
    two_marked g₂ h o None c l t =
        let k₁ = a.same_length in
        let k₂ = c.same_length in
        unmarked xs g h at limit (l ∙ k₂ ∙ k₁)
        (λ q rest m.
        let b = both z q rest m in
        let x = pair q b.p₁ b.p₂ b.is in
        let d = a.marks b.p₁ (write_query b.p₂ ++ rest) b.markable in
        let f = pair_long q b.p₁ b.p₂ x in
        let last : last_part q ≡ first_part q + length (write_query b.p₁) = x.last ∙ ap (λ (v : ℕ). v + length (write_query b.p₁)) (sym x.first) in
        ⊎_elim (λ u. omega (arith, m.short, b.first, d.0)) (λ u. omega (arith, m.within, written_some q)) t)
    two_marked g₂ h o (Some s) c l t =
        let some = some_head in
        let w₁ = a.within in
        let w₂ = c.within in
        record {
          marks = λ q rest m.
              let b = both z q rest m in
              let x = pair q b.p₁ b.p₂ b.is in
              let d₁ = a.marks b.p₁ (write_query b.p₂ ++ rest) b.markable in
              let d₂ = c.marks b.p₂ rest (b.next (length g₁) n a.same_length d₁.0) in
              let f = pair_long q b.p₁ b.p₂ x in
              let last₀ : last_part q ≡ first_part q + length (write_query b.p₁) = x.last ∙ ap (λ (v : ℕ). v + length (write_query b.p₁)) (sym x.first) in
              let last : last_part q ≡ e + n = omega (arith, b.first, d₁.0) in
              let n₁ : n ≡ length (write_query b.p₁) = d₁.0 in (
                omega (arith, t.0, d₂.0),
                x.into h at (at_place g₂ h at (e + n) t.3 t.2 ∙ sym last)
                    (subst (λ (v : ℕ). Guided h (at + v) b.p₁) (sym b.first)
                    (guided_same b.p₁ g₁ h (at + e) (λ i u v. elsewhere g₂ h at (e + n) i t.3 (λ y. omega arith) ∙ c.kept i (inl (omega arith))) d₁.1))
                    (subst (λ (v : ℕ). Guided h (at + v) b.p₂) (sym last) (guided_same b.p₂ g₂ h (at + (e + n)) (λ i u v. elsewhere g₂ h at (e + n) i t.3 (λ y. omega arith)) d₂.1)),
              );
          within = omega (arith, t.0, ap length (from_drop e xs), length-drop e xs, ap length (from_drop (e + n) xs), length-drop (e + n) xs, r.begins.within);
          same_length = l ∙ c.same_length ∙ a.same_length;
          kept = λ i u.
              elsewhere g₂ h at (e + n) i t.3 (⊎_elim (λ v y. omega arith) (λ v y. omega (arith, t.0)) u)
              ∙ c.kept i (⊎_elim (λ v. inl (omega arith)) (λ v. inr (omega (arith, t.0))) u)
              ∙ a.kept i (⊎_elim (λ v. inl (omega arith)) (λ v. inr (omega (arith, t.0))) u);
        }

-- what a guide written so says of a query that was there
pub marked_is : (xs g h : List ℕ) (at limit : ℕ) (r : Option ℕ) (q : Query) (rest : List ℕ) → Marked xs g h at limit r → Markable xs (length g) at limit q rest → (r ≡ Some (length (write_query q))) × Guided h at q
marked_is xs g h at limit None q rest a m = absurd (a.marks q rest m)
marked_is xs g h at limit (Some e) q rest a m = let d = a.marks q rest m in (ap (λ (v : ℕ). Some v) d.0, d.1)

-- What each way through a visit leaves.
use Rattle.std.proofs.Common.{◌≡◌, ℕ, zero, suc, ◌+◌, ◌-◌, ◌^◌, ◌<◌, ◌≤◌, ◌≢◌, List, [], ◌∷◌, ◌++◌, length, get_or, take, drop, Some, None, sym, refl, ap, ◌∙◌, subst, ap₂, arith, length-append, Ok, Err, Option, Result, MatchResult}
use Rattle.std.specs.Result.{result_ok}
use Rattle.std.proofs.lemmas.List.{append_assoc, drop_at, drop_more}
use Rattle.query.specs.Data.{Name}
use Rattle.query.specs.Query.{Op1, Query, table, it, env, just, two, one, each, keep, product, matched, default, as_left, as_right, either, then, with_env}
use Rattle.format.specs.Coding.{Coding, le, number, name, writes, counted}
use Rattle.format.specs.Wire.{write_ty, write_query, FitsQuery, queries}
use Rattle.format.specs.Heads.{QueryHead, table_q, it_q, env_q, just_q, two_q, one_q, each_q, keep_q, product_q, matched_q, default_q, left_q, right_q, either_q, then_q, with_env_q, write_query_head, query_heads, build_query}
use Rattle.format.specs.Reading.{Begins, ReadAs, Stuck}
use Rattle.format.specs.Nodes.{IsOp1, TellsQuery, PlainHead}
use Rattle.format.specs.declared.node.QueryNode.{QueryNode}
use Rattle.format.specs.declared.node.QueryNode.TheVariants as qn
use Rattle.format.specs.declared.node.Unary.{Unary}
use Rattle.format.specs.Lists.{split_at, from, from_drop}
use Rattle.format.specs.Bytes.{length_le}
use Rattle.format.specs.Codings.{number_way, name_way}
use Rattle.format.specs.Tags.{Table, end, row, entry, rows, Good, GoodEntry, beyond}
use Rattle.format.specs.QueryLaws.{query_table, query_good, query_tagged}
use Rattle.guide.specs.Guide.{first_part, last_part, Guided}
use Rattle.guide.specs.Visits.{SaysLast, Visited}
use Rattle.guide.proofs.Shapes.{parts}
use Rattle.guide.proofs.Frame.{written_some}
use Rattle.guide.proofs.Heads.{head_of, head_fits, in_bytes, from_head, found, is_query}

-- the number for a query, as it is and as a right guide has it
pub says_last : (q : Query) (last : ℕ) → last ≡ last_part q → SaysLast last q
unfolding SaysLast
says_last (table n) last e = tt
says_last it last e = tt
says_last env last e = tt
says_last (just t d) last e = e
says_last (two o p q) last e = e
says_last (one o q) last e = e
says_last (each p q) last e = e
says_last (keep p q) last e = e
says_last (product p q) last e = e
says_last (matched m n p q) last e = e
says_last (default p q) last e = e
says_last (as_left t q) last e = e
says_last (as_right t q) last e = e
says_last (either p q) last e = e
says_last (then p q) last e = e
says_last (with_env p q) last e = e

pub guided_says : (q : Query) (g : List ℕ) (at : ℕ) → Guided g at q → SaysLast (get_or g at 0) q
unfolding SaysLast Guided
guided_says (table n) g at e = tt
guided_says it g at e = tt
guided_says env g at e = tt
guided_says (just t d) g at e = e
guided_says (two o p q) g at e = e.0
guided_says (one o q) g at e = e.0
guided_says (each p q) g at e = e.0
guided_says (keep p q) g at e = e.0
guided_says (product p q) g at e = e.0
guided_says (matched m n p q) g at e = e.0
guided_says (default p q) g at e = e.0
guided_says (as_left t q) g at e = e.0
guided_says (as_right t q) g at e = e.0
guided_says (either p q) g at e = e.0
guided_says (then p q) g at e = e.0
guided_says (with_env p q) g at e = e.0

-- the only part is the first
last_first : (q : Query) (last : ℕ) → length (parts q) ≡ 1 → SaysLast last q → last ≡ first_part q
unfolding SaysLast last_part first_part
last_first (table n) last z e = absurd (omega (arith, z))
last_first it last z e = absurd (omega (arith, z))
last_first env last z e = absurd (omega (arith, z))
last_first (just t d) last z e = absurd (omega (arith, z))
last_first (two o p q) last z e = absurd (omega (arith, z))
last_first (one o q) last z e = e
last_first (each p q) last z e = absurd (omega (arith, z))
last_first (keep p q) last z e = absurd (omega (arith, z))
last_first (product p q) last z e = absurd (omega (arith, z))
last_first (matched m n p q) last z e = absurd (omega (arith, z))
last_first (default p q) last z e = absurd (omega (arith, z))
last_first (as_left t q) last z e = e
last_first (as_right t q) last z e = e
last_first (either p q) last z e = absurd (omega (arith, z))
last_first (then p q) last z e = absurd (omega (arith, z))
last_first (with_env p q) last z e = absurd (omega (arith, z))

-- the tag in front of a query tells what its head is made of
module _ (H : Coding) where
  good_at : (n t : ℕ) (es : Table H) → Good H n es → t < rows es → GoodEntry H (n + t) (entry es t)
  good_at n t end g h = absurd (omega arith)
  good_at n zero (row e es) g h = subst (λ (v : ℕ). GoodEntry H v e) (omega arith) g.0
  good_at n (suc t) (row e es) g h = let q : suc n + t ≡ n + suc t = omega arith in subst (λ (v : ℕ). GoodEntry H v (entry es t)) q (good_at (suc n) t es g.1 (omega arith))

  within_rows : (es : Table H) (t : ℕ) → (entry es t).load.T → t < rows es
  within_rows end t l = absurd l
  within_rows (row e es) zero l = omega arith
  within_rows (row e es) (suc t) l = omega (arith, within_rows es t l)

made_written : (t : ℕ) (l : (entry query_table t).load.T) → write_query_head ((entry query_table t).make l) ≡ t ∷ (entry query_table t).load.write l
made_written t l =
    let q : 0 + t ≡ t = omega arith in
    (subst (λ (v : ℕ). GoodEntry query_heads v (entry query_table t)) q (good_at query_heads 0 t query_table query_good (within_rows query_heads query_table t l))).written l

pub record Loaded (t : ℕ) (xs : List ℕ) (q : Query) (rest : List ℕ) : Type 0 where
  pub load : (entry query_table t).load.T
  pub fits : (entry query_table t).load.Fits load
  pub is : head_of q ≡ (entry query_table t).make load
  pub more : List ℕ
  pub after : from 1 xs ≡ (entry query_table t).load.write load ++ more

pub loaded : (t : ℕ) (xs : List ℕ) (q : Query) (rest : List ℕ) → get_or xs 0 0 ≡ t → FitsQuery q → xs ≡ write_query q ++ rest → Loaded t xs q rest
loaded t xs q rest e f i =
    let o = query_tagged (head_of q) (head_fits q f) in
    let more = writes queries (parts q) ++ rest in
    let w : write_query_head (head_of q) ≡ o.tag_is ∷ (entry query_table o.tag_is).load.write o.load_is = ap write_query_head o.is ∙ made_written o.tag_is o.load_is in
    let z : xs ≡ o.tag_is ∷ ((entry query_table o.tag_is).load.write o.load_is ++ more) = in_bytes q xs rest i ∙ ap (λ (v : List ℕ). v ++ more) w in
    let s : o.tag_is ≡ t = sym (ap (λ (v : List ℕ). get_or v 0 0) z) ∙ e in
    subst (λ (v : ℕ). Loaded v xs q rest) s record { load = o.load_is; fits = o.load_fits; is = o.is; more = more; after = from_drop 1 xs ∙ ap (drop 1) z }

module _ (xs : List ℕ) (last t : ℕ) (tag : get_or xs 0 0 ≡ t) where
  pub unvisited : ((q : Query) (rest : List ℕ) → Loaded t xs q rest → ⊥) → Visited xs last None
  unvisited f = record { visits = λ q rest fq i s. f q rest (loaded t xs q rest tag fq i) }

  pub visited : (node : QueryNode) (first : ℕ) → ((q : Query) (rest : List ℕ) → Loaded t xs q rest → SaysLast last q → TellsQuery node (head_of q) × (first ≡ first_part q)) → Visited xs last (Some record { node = node; first = first })
  visited node first f = record { visits = λ q rest fq i s. let w = f q rest (loaded t xs q rest tag fq i) s in (is_query node q w.0, w.1) }

pub unvisited_empty : (xs : List ℕ) (last : ℕ) → length xs ≡ 0 → Visited xs last None
unvisited_empty xs last z = record { visits = λ q rest f i s. omega (arith, ap length i, length-append (write_query q) rest, written_some q) }

-- by the head that a query has
pub first_by : (q : Query) (h : QueryHead) → head_of q ≡ h → first_part q ≡ first_part (build_query h (parts q))
first_by q h e = ap first_part (from_head q h e)

pub says_by : (q : Query) (h : QueryHead) (last : ℕ) → head_of q ≡ h → SaysLast last q → SaysLast last (build_query h (parts q))
says_by q h last e s = subst (λ (v : Query). SaysLast last v) (from_head q h e) s

-- what a read told that was kept as an option
pub read_some : {T : Type 0} (A : T → Type 0) (B : ℕ → Type 0) (r : Result T ℕ) (o : Option T) (x : T) → MatchResult r A B → o ≡ result_ok r → o ≡ Some x → A x
read_some {T} A B (Ok y) o x m e f = let z : ◌≡◌ {A = Option T} (Some y) (Some x) = sym e ∙ f in let q : y ≡ x = cc in subst A q m
read_some {T} A B (Err p) o x m e f = let z : ◌≡◌ {A = Option T} None (Some x) = sym e ∙ f in cc

pub read_none : {T : Type 0} (A : T → Type 0) (B : ℕ → Type 0) (r : Result T ℕ) (o : Option T) → MatchResult r A B → o ≡ result_ok r → o ≡ None → (p : ℕ) × B p
read_none {T} A B (Ok y) o m e f = let z : ◌≡◌ {A = Option T} (Some y) None = sym e ∙ f in cc
read_none {T} A B (Err p) o m e f = (p, m)

-- things that begin with how many they have: numbers, which tell themselves, names, and several names
abbrev pub Counts : (L : Coding) → (L.T → ℕ) → Type 0
Counts L count = (l : L.T) (more : List ℕ) → L.Fits l → (count l < 2 ^ 32) × (u : List ℕ) × (L.write l ++ more ≡ le 4 (count l) ++ u)

pub number_counts : Counts (number 4) (λ n. n)
number_counts n more f = (f, more, refl)

pub name_counts : Counts name length
name_counts n more f = (f.0, n ++ more, append_assoc (le 4 (length n)) n more)

pub names_counts : Counts (counted name) length
names_counts ns more f = (f.0, writes name ns ++ more, append_assoc (le 4 (length ns)) (writes name ns) more)

module _ (L : Coding) (count : L.T → ℕ) (c : Counts L count) (xs more : List ℕ) (l : L.T) (f : L.Fits l) (e : xs ≡ L.write l ++ more) where
  count_same : (n : ℕ) → Begins (number 4) xs 4 n → count l ≡ n
  count_same n b = let w = c l more f in (number_way 4 (count l) n w.1 (drop 4 xs) w.0 b.fits (sym w.2 ∙ sym e ∙ split_at 4 xs (le 4 n) b.is)).0

  count_there : (p : ℕ) → Stuck (number 4) xs p → ⊥
  count_there p s = let w = c l more f in s.absent (count l) w.1 w.0 (e ∙ w.2)

-- the count after a tag, as it was read
module _ (xs : List ℕ) (last t : ℕ) (tag : get_or xs 0 0 ≡ t) (count : (entry query_table t).load.T → ℕ) (c : Counts (entry query_table t).load count)
    (r : Result ℕ ℕ) (m : MatchResult r (λ n. Begins (number 4) (from 1 xs) 4 n) (λ p. Stuck (number 4) (from 1 xs) p)) (o : Option ℕ) (e : o ≡ result_ok r) where
  pub uncounted : o ≡ None → Visited xs last None
  uncounted z = let b = read_none _ _ r o m e z in unvisited xs last t tag (λ q rest l. count_there (entry query_table t).load count c (from 1 xs) l.more l.load l.fits l.after b.0 b.1)

  pub counted_as : (n : ℕ) → o ≡ Some n → (q : Query) (rest : List ℕ) (l : Loaded t xs q rest) → count l.load ≡ n
  counted_as n z q rest l = count_same (entry query_table t).load count c (from 1 xs) l.more l.load l.fits l.after n (read_some _ _ r o n m e z)

-- what is written out, and the types of other sides
pub just_told : (xs rest : List ℕ) (last k : ℕ) (q : Query) → k ≡ last - 1 → Loaded 3 xs q rest → SaysLast last q → TellsQuery (qn.Just k) (head_of q) × (1 ≡ first_part q)
unfolding SaysLast last_part first_part build_query
just_told xs rest last k q e l s =
    let h = just_q l.load.0 l.load.1 in
    let z : last ≡ 1 + length (write_ty l.load.0) = says_by q h last l.is s in
    ((l.load.0, l.load.1, l.is, omega arith), sym (first_by q h l.is))

only_part : (q : Query) (h : QueryHead) (last n : ℕ) → head_of q ≡ h → length (parts (build_query h (parts q))) ≡ n → n ≡ 1 → SaysLast last q → last ≡ first_part q
only_part q h last n e z i s = last_first q last (ap (λ (v : Query). length (parts v)) (from_head q h e) ∙ z ∙ i) s

pub left_told : (xs rest : List ℕ) (last k : ℕ) (q : Query) → k ≡ last - 1 → Loaded 27 xs q rest → SaysLast last q → TellsQuery (qn.OnLeft k) (head_of q) × (last ≡ first_part q)
unfolding SaysLast last_part build_query
left_told xs rest last k q e l s =
    let h = left_q l.load in
    let z : last ≡ 1 + length (write_ty l.load) = says_by q h last l.is s in
    ((l.load, l.is, omega arith), only_part q h last 1 l.is refl refl s)

pub right_told : (xs rest : List ℕ) (last k : ℕ) (q : Query) → k ≡ last - 1 → Loaded 28 xs q rest → SaysLast last q → TellsQuery (qn.OnRight k) (head_of q) × (last ≡ first_part q)
unfolding SaysLast last_part build_query
right_told xs rest last k q e l s =
    let h = right_q l.load in
    let z : last ≡ 1 + length (write_ty l.load) = says_by q h last l.is s in
    ((l.load, l.is, omega arith), only_part q h last 1 l.is refl refl s)

-- an operator by something counted: a name of so many bytes, or so many names
pub counted_told : (q : Query) (last : ℕ) (o : Op1) (u : Unary) → head_of q ≡ one_q o → IsOp1 u o → SaysLast last q → TellsQuery (qn.One u) (head_of q) × (last ≡ first_part q)
unfolding build_query
counted_told q last o u e f s = ((o, e, f), only_part q (one_q o) last 1 e refl refl s)

-- a head that is its tag alone, and has parts
first_plain : (t : ℕ) (h : QueryHead) (qs : List Query) → write_query_head h ≡ t ∷ [] → (t ≢ 1) → (t ≢ 2) → first_part (build_query h qs) ≡ 1
unfolding write_query_head first_part build_query
first_plain t (table_q n) qs e a b = absurd (omega (arith, ap length e, length_le 4 n))
first_plain t it_q qs e a b = absurd (a (sym (ap (λ (v : List ℕ). get_or v 0 0) e)))
first_plain t env_q qs e a b = absurd (b (sym (ap (λ (v : List ℕ). get_or v 0 0) e)))
first_plain t (just_q u d) qs e a b = refl
first_plain t (two_q o) qs e a b = refl
first_plain t (one_q o) qs e a b = ap length e
first_plain t each_q qs e a b = refl
first_plain t keep_q qs e a b = refl
first_plain t product_q qs e a b = refl
first_plain t (matched_q m n) qs e a b = omega (arith, ap length e)
first_plain t default_q qs e a b = refl
first_plain t (left_q u) qs e a b = omega (arith, ap length e)
first_plain t (right_q u) qs e a b = omega (arith, ap length e)
first_plain t either_q qs e a b = refl
first_plain t then_q qs e a b = refl
first_plain t with_env_q qs e a b = refl

pub plain_visited : (xs : List ℕ) (last : ℕ) (node : QueryNode) → 0 < length xs → (get_or xs 0 0 ≢ 1) → (get_or xs 0 0 ≢ 2) → PlainHead (get_or xs 0 0) node → Visited xs last (Some record { node = node; first = 1 })
plain_visited xs last node l a b p =
    let s : Begins query_heads xs 1 p.head = record { within = l; fits = p.fits; is = ap (λ (v : List ℕ). take 1 v) (drop_more xs 0 0 l) ∙ sym p.written } in
    record {
      visits = λ q rest f i k.
          let e = (found xs 1 p.head q rest s f i).same in
          (is_query node q (subst (λ (v : QueryHead). TellsQuery node v) e p.tells), sym (first_by q p.head (sym e) ∙ first_plain (get_or xs 0 0) p.head (parts q) p.written a b));
    }

pub no_tag : (xs : List ℕ) (q : Query) (rest : List ℕ) → 32 ≤ get_or xs 0 0 → Loaded (get_or xs 0 0) xs q rest → ⊥
no_tag xs q rest h l = beyond query_heads query_table (get_or xs 0 0) h l.load

-- the two names as they are read, one after the other
after_name : (xs more : List ℕ) (m : Name) (j : ℕ) → length m ≡ j → xs ≡ name.write m ++ more → from (4 + j) xs ≡ more
after_name xs more m j e i =
    let l : length (name.write m) ≡ 4 + j = length-append (le 4 (length m)) m ∙ ap₂ (λ (u : ℕ) (v : ℕ). u + v) (length_le 4 (length m)) e in
    from_drop (4 + j) xs ∙ ap (drop (4 + j)) i ∙ drop_at (name.write m) more (4 + j) l

module _ (xs : List ℕ) (last : ℕ) (tag : get_or xs 0 0 ≡ 25) where
  apart : (q : Query) (rest : List ℕ) (l : Loaded 25 xs q rest) → from 1 xs ≡ name.write l.load.0 ++ (name.write l.load.1 ++ l.more)
  apart q rest l = l.after ∙ append_assoc (name.write l.load.0) (name.write l.load.1) l.more

  pub no_first_name : (p : ℕ) → Stuck name (from 1 xs) p → Visited xs last None
  no_first_name p s = unvisited xs last 25 tag (λ q rest l. s.absent l.load.0 (name.write l.load.1 ++ l.more) l.fits.0 (apart q rest l))

  module _ (j : ℕ) (b : ReadAs name (from 1 xs) (4 + j) (λ t. length t ≡ j)) where
    same_first : (q : Query) (rest : List ℕ) (l : Loaded 25 xs q rest) → length l.load.0 ≡ j
    same_first q rest l =
        let e = name_way l.load.0 b.thing _ _ l.fits.0 b.begins.fits (sym (apart q rest l) ∙ split_at (4 + j) (from 1 xs) (name.write b.thing) b.begins.is) in
        ap length e.0 ∙ b.says

    pub no_second_name : (p : ℕ) → Stuck (number 4) (from (4 + j) (from 1 xs)) p → Visited xs last None
    no_second_name p s =
        unvisited xs last 25 tag
        (λ q rest l. count_there name length name_counts (from (4 + j) (from 1 xs)) l.more l.load.1 l.fits.1 (after_name (from 1 xs) (name.write l.load.1 ++ l.more) l.load.0 j (same_first q rest l) (apart q rest l)) p s)

    pub both_names : (k : ℕ) → Begins (number 4) (from (4 + j) (from 1 xs)) 4 k → Visited xs last (Some record { node = qn.Matched j k; first = 1 + (4 + j + (4 + k)) })
    unfolding first_part build_query
    both_names k c =
        visited xs last 25 tag (qn.Matched j k) (1 + (4 + j + (4 + k)))
        (λ q rest l s.
        let m = l.load.0 in
        let n = l.load.1 in
        let u = same_first q rest l in
        let v : length n ≡ k = count_same name length name_counts (from (4 + j) (from 1 xs)) l.more n l.fits.1 (after_name (from 1 xs) (name.write n ++ l.more) m j u (apart q rest l)) k c in
        let a = length-append (name.write m) (name.write n) in
        let d = length-append (le 4 (length m)) m in
        let f = length-append (le 4 (length n)) n in
        let g : 1 + (4 + j + (4 + k)) ≡ 1 + length (name.write m ++ name.write n) = omega (arith, length_le 4 (length m), length_le 4 (length n), u, v) in
        ((m, n, l.is, u, v), g ∙ sym (first_by q (matched_q m n) l.is)))

-- From an operator where it stands in its query to what comes of the value.
use Rattle.std.proofs.Common.{◌≡◌, ℕ, suc, ◌+◌, ◌≤◌, true, List, [], ◌∷◌, ◌++◌, length, take, drop, Result, sym, refl, ap, ◌∙◌, subst, arith, length-append, length-drop}
use mathlib.Core.Bool.{false≢true}
use Rattle.std.proofs.lemmas.List.{drop-drop}
use Rattle.query.specs.Data.{Name, Data, rec, Fields, no_field, field}
use Rattle.query.specs.Query.{Op1, not_so, in_bag, flat, count, sum, distinct, dot, as_field, without, project, Ty, a_rec, Tys, Query, one, adding, apply1}
use Rattle.query.specs.Types.{sound, sounds, is_of, fields_of, fields_are, on_one, type1}
use Rattle.query.proofs.TypeParts.{fields_out}
use Rattle.query.proofs.Operators.{apply1_of}
use Rattle.format.specs.Coding.{le, name, writes, AllFit}
use Rattle.format.specs.Wire.{write_1, write_query, Fits1, FitsQuery}
use Rattle.format.specs.declared.node.Unary.{Unary}
use Rattle.format.specs.declared.node.Unary.TheVariants as uo
use Rattle.format.specs.Bytes.{length_le}
use Rattle.guide.proofs.Standing.{dot_stands, as_field_stands, without_stands, names_stand}
use Rattle.values.specs.Memory.{Spelled}
use Rattle.values.specs.Height.{height}
use Rattle.values.specs.declared.value.Value.{Value}
use Rattle.bounds.specs.Names.{width, named, nameds}
use Rattle.bounds.proofs.Heights.{no_deeper}
use Rattle.bounds.proofs.Widths.{as_wide, no_wider}
use Rattle.records.specs.Parts.{how_many_fields}
use Rattle.records.specs.Records.{NamesStand}
use Rattle.operators.specs.Applied.{Made1, op1, on_left, on_right, one_query, one_got, one_type}
use Rattle.operators.specs.Ready.{OneReady, Ones, Written}
use Rattle.operators.specs.Means.{Means}
use Rattle.operators.specs.Came.{Came}
use Rattle.operators.specs.declared.came.Stop.{Stop}
use Rattle.operators.specs.declared.op.Single.{Single}
use Rattle.operators.specs.declared.op.Single.TheVariants as sg
use Rattle.unary.specs.Unary.{Given, PaysFor, Turns, TurnsOnce, TurnsByName, TurnsByNames, to_left, to_right}

-- a record's width, as it is counted here and there
same_width : (fs : Fields) → how_many_fields fs ≡ width fs
unfolding how_many_fields width
same_width no_field = refl
same_width (field n d fs) = ap suc (same_width fs)

rec_of_type : (fs : Fields) (t : Ty) → is_of (rec fs) t ≡ true → (ts : Tys) × (t ≡ a_rec ts) × (fields_are fs ts ≡ true)
unfolding is_of on_one
rec_of_type fs t h = go (fields_of t) refl h
  where
    go : (l : List Tys) → fields_of t ≡ l → on_one l (λ ts. fields_are fs ts) ≡ true → (ts : Tys) × (t ≡ a_rec ts) × (fields_are fs ts ≡ true)
    go [] e k = absurd (false≢true k)
    go (ts ∷ r) e k = (ts, fields_out t ts r e, k)

-- a record of a type whose names are in order and among some has no more fields than there are names
few_fields : (ns : List Name) (t : Ty) (fs : Fields) → sound t ≡ true → named ns t ≡ true → is_of (rec fs) t ≡ true → how_many_fields fs ≤ length ns
unfolding sound named
few_fields ns t fs s n h =
    let q = rec_of_type fs t h in
    let a : sounds q.0 ≡ true = subst (λ (x : Ty). sound x ≡ true) q.1 s in
    let b : nameds ns q.0 ≡ true = subst (λ (x : Ty). named ns x ≡ true) q.1 n in
    omega (arith, same_width fs, as_wide fs q.0 q.2, no_wider ns q.0 a b)

same_first : (x y : Data) → ◌≡◌ {A = List Data} (x ∷ []) (y ∷ []) → x ≡ y
same_first x y e = cc

-- so many bytes stand there
long_enough : (bs : List ℕ) (spot k : ℕ) → 1 ≤ k → k ≤ length (drop spot bs) → spot + k ≤ length bs
long_enough bs spot k p h = omega (arith, length-drop spot bs)

named_long : (o : Op1) (t : ℕ) (n : Name) (q : Query) (xs rest : List ℕ) → write_1 o ≡ t ∷ name.write n → xs ≡ write_query (one o q) ++ rest → 5 + length n ≤ length xs
unfolding write_query
named_long o t n q xs rest w e =
    omega (arith, ap length e, length-append (write_1 o ++ write_query q) rest, length-append (write_1 o) (write_query q), ap length w, length-append (le 4 (length n)) n, length_le 4 (length n))

dot_long : (n : Name) (q : Query) (xs rest : List ℕ) → xs ≡ write_query (one (dot n) q) ++ rest → 5 + length n ≤ length xs
unfolding write_1
dot_long n q xs rest e = named_long (dot n) 18 n q xs rest refl e

as_field_long : (n : Name) (q : Query) (xs rest : List ℕ) → xs ≡ write_query (one (as_field n) q) ++ rest → 5 + length n ≤ length xs
unfolding write_1
as_field_long n q xs rest e = named_long (as_field n) 19 n q xs rest refl e

without_long : (n : Name) (q : Query) (xs rest : List ℕ) → xs ≡ write_query (one (without n) q) ++ rest → 5 + length n ≤ length xs
unfolding write_1
without_long n q xs rest e = named_long (without n) 20 n q xs rest refl e

names_long : (ns : List Name) (q : Query) (xs rest : List ℕ) → xs ≡ write_query (one (project ns) q) ++ rest → 5 ≤ length xs
unfolding write_query write_1
names_long ns q xs rest e =
    omega (arith, ap length e, length-append (write_1 (project ns) ++ write_query q) rest, length-append (write_1 (project ns)) (write_query q), length-append (le 4 (length ns)) (writes name ns), length_le 4 (length ns))

names_fit : (ns : List Name) (q : Query) → FitsQuery (one (project ns) q) → AllFit name ns
unfolding FitsQuery Fits1
names_fit ns q f = f.0.1

spelled_at : (bs : List ℕ) (spot : ℕ) (n : Name) (k : ℕ) → length n ≡ k → 5 + length n ≤ length (drop spot bs) → take (length n) (drop 5 (drop spot bs)) ≡ n → Spelled bs n (spot + 5) k
spelled_at bs spot n k l long is =
    record { within = omega (arith, length-drop spot bs); is = sym is ∙ ap (λ (x : List ℕ). take (length n) x) (drop-drop 5 spot bs) ∙ ap (λ (x : ℕ). take x (drop (spot + 5) bs)) l }

module _ (bs : List ℕ) (spot deep : ℕ) (s : Single) (v : Value) (m : List ℕ) (top : ℕ) (g : OneReady bs spot deep s v m top) where
  given : Given bs g.rate g.used g.datum v m top
  given = record { dear = omega (arith, g.dear); holds = g.holds; low = g.low; room = g.room }

  not_deep : height g.datum ≤ deep
  not_deep = omega (arith, no_deeper g.datum g.of g.is, g.fine_of.shallow)

  -- its type
  pays : (o : Op1) → g.op ≡ op1 o → PaysFor g.rate (apply1 o g.datum)
  pays o is fs e =
      let typed : type1 o g.of ≡ g.to ∷ [] = subst (λ (x : Made1). one_type x g.of ≡ g.to ∷ []) is g.typed in
      let a = apply1_of o g.of g.to [] g.datum typed g.is in
      let same : a.0 ≡ rec fs = same_first a.0 (rec fs) (sym a.1 ∙ e) in
      let few : how_many_fields fs ≤ length g.names = few_fields g.names g.to fs g.fine_to.in_order g.fine_to.within (subst (λ (x : Data). is_of x g.to ≡ true) same a.2) in
      omega (arith, g.dear)

  stands : (o : Op1) → g.op ≡ op1 o → (rest : List ℕ) × FitsQuery (one o g.part) × (drop spot bs ≡ write_query (one o g.part) ++ rest)
  stands o is =
      let w : Written bs spot (one o g.part) = subst (λ (x : Made1). Written bs spot (one_query x g.part)) is g.written in
      (w.rest, w.fits, w.is)

  dot_spelled : (n : Name) (k : ℕ) → g.op ≡ op1 (dot n) → length n ≡ k → Spelled bs n (spot + 5) k
  dot_spelled n k is l = let w = stands (dot n) is in spelled_at bs spot n k l (dot_long n g.part (drop spot bs) w.0 w.2) (dot_stands n g.part (drop spot bs) w.0 w.2)

  as_field_spelled : (n : Name) (k : ℕ) → g.op ≡ op1 (as_field n) → length n ≡ k → Spelled bs n (spot + 5) k
  as_field_spelled n k is l = let w = stands (as_field n) is in spelled_at bs spot n k l (as_field_long n g.part (drop spot bs) w.0 w.2) (as_field_stands n g.part (drop spot bs) w.0 w.2)

  without_spelled : (n : Name) (k : ℕ) → g.op ≡ op1 (without n) → length n ≡ k → Spelled bs n (spot + 5) k
  without_spelled n k is l = let w = stands (without n) is in spelled_at bs spot n k l (without_long n g.part (drop spot bs) w.0 w.2) (without_stands n g.part (drop spot bs) w.0 w.2)

  only_within : (ns : List Name) → g.op ≡ op1 (project ns) → spot + 5 ≤ length bs
  only_within ns is = let w = stands (project ns) is in long_enough bs spot 5 (omega arith) (names_long ns g.part (drop spot bs) w.0 w.2)

  only_names : (ns : List Name) (k : ℕ) → g.op ≡ op1 (project ns) → length ns ≡ k → NamesStand bs (spot + 5) k ns
  only_names ns k is l =
      let w = stands (project ns) is in
      record {
        stands = record { within = only_within ns is; rest = write_query g.part ++ w.0; is = sym (drop-drop 5 spot bs) ∙ names_stand ns g.part (drop spot bs) w.0 w.2 };
        fit = (l, names_fit ns g.part w.1);
      }

-- each operator: what it is told as, and what comes of the value
module _ (bs : List ℕ) (spot deep : ℕ) (v : Value) (m : List ℕ) (top left : ℕ) (n : List ℕ) (r : Result Came Stop) where
  comes : (s : Single) (k : Made1) (g : OneReady bs spot deep s v m top) → g.op ≡ k → Means bs g.rate (adding 1 (one_got k g.datum)) (1 + left) g.used top n r → Means bs g.rate (adding 1 (one_got g.op g.datum)) (1 + left) g.used top n r
  comes s k g is h = subst (λ (x : Made1). Means bs g.rate (adding 1 (one_got x g.datum)) (1 + left) g.used top n r) (sym is) h

  plain_comes : (u : Unary) (o : Op1) → ((g : OneReady bs spot deep (sg.Op u) v m top) → g.op ≡ op1 o) → Turns (apply1 o) v m top left n r → Ones bs spot deep (sg.Op u) v m top left n r
  plain_comes u o told t = record { kept = t.kept; means = λ g. comes (sg.Op u) (op1 o) g (told g) (t.means bs g.rate g.used g.datum (given bs spot deep (sg.Op u) v m top g)) }

  at_op : (u w : Unary) → u ≡ w → Ones bs spot deep (sg.Op w) v m top left n r → Ones bs spot deep (sg.Op u) v m top left n r
  at_op u w e h = subst (λ (x : Unary). Ones bs spot deep (sg.Op x) v m top left n r) (sym e) h

  pub not_comes : (u : Unary) → u ≡ uo.Not → Turns (apply1 not_so) v m top left n r → Ones bs spot deep (sg.Op u) v m top left n r
  not_comes u e t = at_op u uo.Not e (plain_comes uo.Not not_so (λ g. g.told.1 ∙ ap op1 g.told.2) t)

  pub in_bag_comes : (u : Unary) → u ≡ uo.InBag → Turns (apply1 in_bag) v m top left n r → Ones bs spot deep (sg.Op u) v m top left n r
  in_bag_comes u e t = at_op u uo.InBag e (plain_comes uo.InBag in_bag (λ g. g.told.1 ∙ ap op1 g.told.2) t)

  pub flat_comes : (u : Unary) → u ≡ uo.Flat → Turns (apply1 flat) v m top left n r → Ones bs spot deep (sg.Op u) v m top left n r
  flat_comes u e t = at_op u uo.Flat e (plain_comes uo.Flat flat (λ g. g.told.1 ∙ ap op1 g.told.2) t)

  pub count_comes : (u : Unary) → u ≡ uo.Count → Turns (apply1 count) v m top left n r → Ones bs spot deep (sg.Op u) v m top left n r
  count_comes u e t = at_op u uo.Count e (plain_comes uo.Count count (λ g. g.told.1 ∙ ap op1 g.told.2) t)

  pub sum_comes : (u : Unary) → u ≡ uo.Sum → Turns (apply1 sum) v m top left n r → Ones bs spot deep (sg.Op u) v m top left n r
  sum_comes u e t = at_op u uo.Sum e (plain_comes uo.Sum sum (λ g. g.told.1 ∙ ap op1 g.told.2) t)

  pub distinct_comes : (u : Unary) → u ≡ uo.Distinct → TurnsOnce bs deep v m top left n r → Ones bs spot deep (sg.Op u) v m top left n r
  distinct_comes u e t = at_op u uo.Distinct e (record {
    kept = t.kept;
    means = λ g.
        comes (sg.Op uo.Distinct) (op1 distinct) g (g.told.1 ∙ ap op1 g.told.2) (t.means g.rate g.used g.datum (given bs spot deep (sg.Op uo.Distinct) v m top g) (not_deep bs spot deep (sg.Op uo.Distinct) v m top g));
  })

  pub dot_comes : (u : Unary) (k : ℕ) → u ≡ uo.Dot k → TurnsByName dot bs (record { start = spot + 5; count = k }) v m top left n r → Ones bs spot deep (sg.Op u) v m top left n r
  dot_comes u k e t = at_op u (uo.Dot k) e (record {
    kept = t.kept;
    means = λ g.
        let a = g.told.2.0 in
        let is : g.op ≡ op1 (dot a) = g.told.1 ∙ ap op1 g.told.2.1 in
        comes (sg.Op (uo.Dot k)) (op1 (dot a)) g is (t.means a g.rate g.used g.datum (dot_spelled bs spot deep (sg.Op (uo.Dot k)) v m top g a k is g.told.2.2) (given bs spot deep (sg.Op (uo.Dot k)) v m top g) (pays bs spot deep (sg.Op (uo.Dot k)) v m top g (dot a) is));
  })

  pub as_field_comes : (u : Unary) (k : ℕ) → u ≡ uo.AsField k → TurnsByName as_field bs (record { start = spot + 5; count = k }) v m top left n r → Ones bs spot deep (sg.Op u) v m top left n r
  as_field_comes u k e t = at_op u (uo.AsField k) e (record {
    kept = t.kept;
    means = λ g.
        let a = g.told.2.0 in
        let is : g.op ≡ op1 (as_field a) = g.told.1 ∙ ap op1 g.told.2.1 in
        comes (sg.Op (uo.AsField k)) (op1 (as_field a)) g is (t.means a g.rate g.used g.datum (as_field_spelled bs spot deep (sg.Op (uo.AsField k)) v m top g a k is g.told.2.2) (given bs spot deep (sg.Op (uo.AsField k)) v m top g) (pays bs spot deep (sg.Op (uo.AsField k)) v m top g (as_field a) is));
  })

  pub without_comes : (u : Unary) (k : ℕ) → u ≡ uo.Without k → TurnsByName without bs (record { start = spot + 5; count = k }) v m top left n r → Ones bs spot deep (sg.Op u) v m top left n r
  without_comes u k e t = at_op u (uo.Without k) e (record {
    kept = t.kept;
    means = λ g.
        let a = g.told.2.0 in
        let is : g.op ≡ op1 (without a) = g.told.1 ∙ ap op1 g.told.2.1 in
        comes (sg.Op (uo.Without k)) (op1 (without a)) g is (t.means a g.rate g.used g.datum (without_spelled bs spot deep (sg.Op (uo.Without k)) v m top g a k is g.told.2.2) (given bs spot deep (sg.Op (uo.Without k)) v m top g) (pays bs spot deep (sg.Op (uo.Without k)) v m top g (without a) is));
  })

  pub only_comes : (u : Unary) (k : ℕ) → u ≡ uo.Only k → TurnsByNames bs (spot + 5) k v m top left n r → Ones bs spot deep (sg.Op u) v m top left n r
  only_comes u k e t = at_op u (uo.Only k) e (record {
    kept = t.kept;
    means = λ g.
        let a = g.told.2.0 in
        let is : g.op ≡ op1 (project a) = g.told.1 ∙ ap op1 g.told.2.1 in
        comes (sg.Op (uo.Only k)) (op1 (project a)) g is (t.means a g.rate g.used g.datum (only_names bs spot deep (sg.Op (uo.Only k)) v m top g a k is g.told.2.2) (given bs spot deep (sg.Op (uo.Only k)) v m top g) (pays bs spot deep (sg.Op (uo.Only k)) v m top g (project a) is));
  })

  pub left_comes : (s : Single) → s ≡ sg.Left → Turns to_left v m top left n r → Ones bs spot deep s v m top left n r
  left_comes s e t = subst (λ (x : Single). Ones bs spot deep x v m top left n r) (sym e) (record {
    kept = t.kept;
    means = λ g.
        comes sg.Left (on_left g.told.0) g g.told.1 (t.means bs g.rate g.used g.datum (given bs spot deep sg.Left v m top g));
  })

  pub right_comes : (s : Single) → s ≡ sg.Right → Turns to_right v m top left n r → Ones bs spot deep s v m top left n r
  right_comes s e t = subst (λ (x : Single). Ones bs spot deep x v m top left n r) (sym e) (record {
    kept = t.kept;
    means = λ g.
        comes sg.Right (on_right g.told.0) g g.told.1 (t.means bs g.rate g.used g.datum (given bs spot deep sg.Right v m top g));
  })

-- the names of an operator stand within the bytes
module _ (bs : List ℕ) (spot deep : ℕ) (u : Unary) (v : Value) (m : List ℕ) (top : ℕ) (g : OneReady bs spot deep (sg.Op u) v m top) where
  at_case : (w : Unary) → u ≡ w → OneReady bs spot deep (sg.Op w) v m top
  at_case w e = subst (λ (x : Unary). OneReady bs spot deep (sg.Op x) v m top) e g

  pub dot_in : (k : ℕ) → u ≡ uo.Dot k → spot + 5 ≤ length bs
  dot_in k e =
      let h = at_case (uo.Dot k) e in
      let s = dot_spelled bs spot deep (sg.Op (uo.Dot k)) v m top h h.told.2.0 k (h.told.1 ∙ ap op1 h.told.2.1) h.told.2.2 in
      omega (arith, s.within)

  pub as_field_in : (k : ℕ) → u ≡ uo.AsField k → spot + 5 ≤ length bs
  as_field_in k e =
      let h = at_case (uo.AsField k) e in
      let s = as_field_spelled bs spot deep (sg.Op (uo.AsField k)) v m top h h.told.2.0 k (h.told.1 ∙ ap op1 h.told.2.1) h.told.2.2 in
      omega (arith, s.within)

  pub without_in : (k : ℕ) → u ≡ uo.Without k → spot + 5 ≤ length bs
  without_in k e =
      let h = at_case (uo.Without k) e in
      let s = without_spelled bs spot deep (sg.Op (uo.Without k)) v m top h h.told.2.0 k (h.told.1 ∙ ap op1 h.told.2.1) h.told.2.2 in
      omega (arith, s.within)

  pub only_in : (k : ℕ) → u ≡ uo.Only k → spot + 5 ≤ length bs
  only_in k e =
      let h = at_case (uo.Only k) e in
      only_within bs spot deep (sg.Op (uo.Only k)) v m top h h.told.2.0 (h.told.1 ∙ ap op1 h.told.2.1)

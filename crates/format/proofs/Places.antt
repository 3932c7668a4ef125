-- Where the parts of a request stand.
use Rattle.std.proofs.Common.{◌≡◌, ℕ, ◌+◌, ◌<◌, ◌≤◌, List, ◌++◌, length, drop, sym, refl, ap, ◌∙◌, subst, Fits, arith, length-append, length-drop, drop-drop}
use Rattle.std.proofs.lemmas.List.{append_assoc}
use Rattle.format.specs.Coding.{Coding, le, writes, many, counted}
use Rattle.std.specs.Int.{w8}
use Rattle.std.specs.Prelude.{slice_index}
use Rattle.format.specs.Reading.{Begins, ReadAs}
use Rattle.query.specs.Query.{Query, Tables}
use Rattle.query.specs.Types.{Schema}
use Rattle.format.specs.Wire.{types, data_of, queries, requests}
use Rattle.format.specs.Nodes.{ask_load, plan_load, Stands, AsksFor, PlansFor, TellsRequest}
use Rattle.format.specs.RequestLaws.{request_begins}
use Rattle.format.specs.declared.node.Request.TheVariants.{ToAsk, ToPlan}
use Rattle.format.specs.declared.node.Ask.{Ask}
use Rattle.format.specs.declared.node.Plan.{Plan}
use Rattle.format.specs.Lists.{split_at, after_of, from, from_drop}
use Rattle.format.specs.Bytes.{length_le}
use Rattle.format.proofs.Pairs.{written_length}

-- what was read at the front stands there
pub stands_front : (S : Coding) (xs : List ℕ) (e : ℕ) (x : S.T) → Begins S xs e x → Stands S xs 0 x
stands_front S xs e x b = record { within = omega arith; rest = drop e xs; is = split_at e xs (S.write x) b.is }

-- what stands in the part from e on
pub stands_on : (S : Coding) (xs : List ℕ) (e at to : ℕ) (x : S.T) → e ≤ length xs → to ≡ e + at → Stands S (from e xs) at x → Stands S xs to x
stands_on S xs e at to x l q s =
    let d = from_drop e xs in
    let f : drop to xs ≡ drop at (from e xs) = ap (λ (v : ℕ). drop v xs) q ∙ sym (drop-drop at e xs) ∙ ap (drop at) (sym d) in
    record { within = omega (arith, s.within, ap length d, length-drop e xs); rest = s.rest; is = f ∙ s.is }

-- the things of a counted run stand after the count
pub stands_counted : (S : Coding) (xs : List ℕ) (n : ℕ) (ts : List S.T) → 4 ≤ length xs → Stands (counted S) xs 0 ts → Stands (many S n) xs 4 ts
stands_counted S xs n ts l s =
    record {
      within = l;
      rest = s.rest;
      is =
          ap (drop 4) (s.is ∙ append_assoc (le 4 (length ts)) (writes S ts) s.rest)
          ∙ subst (λ (v : ℕ). drop v (le 4 (length ts) ++ (writes S ts ++ s.rest)) ≡ writes S ts ++ s.rest) (length_le 4 (length ts)) (after_of (le 4 (length ts)) (writes S ts ++ s.rest));
    }

-- a counted run that was read has at least its count
pub counted_stands : (S : Coding) (xs : List ℕ) (n e : ℕ) (ts : List S.T) → Begins (counted S) xs e ts → Stands (many S n) xs 4 ts
counted_stands S xs n e ts b =
    let l = written_length (counted S) xs e ts b in
    let k = length-append (le 4 (length ts)) (writes S ts) in
    stands_counted S xs n ts (omega (arith, b.within, l, k, length_le 4 (length ts))) (stands_front (counted S) xs e ts b)

-- the places of a request to ask, and of one to plan, counted from the tag
abbrev pub ask_moved : Ask → Ask
ask_moved a = record { types = a.types; tables_at = 1 + a.tables_at; tables = a.tables; query_at = 1 + a.query_at; work = a.work }

abbrev pub plan_moved : Plan → Plan
plan_moved p = record { types = p.types; query_at = 1 + p.query_at }

asks_on : (xs : List ℕ) (a : Ask) (ss : Schema) (ts : Tables) (q : Query) (w : ℕ) → 1 ≤ length xs → AsksFor (from 1 xs) 0 a ss ts q w → AsksFor xs 1 (ask_moved a) ss ts q w
asks_on xs a ss ts q w l r =
    record {
      many_types = r.many_types;
      schema = stands_on (many types a.types) xs 1 4 5 ss l refl r.schema;
      many_tables = r.many_tables;
      tables = stands_on (many data_of a.tables) xs 1 a.tables_at (1 + a.tables_at) ts l refl r.tables;
      query = stands_on queries xs 1 a.query_at (1 + a.query_at) q l refl r.query;
      work = r.work;
    }

plans_on : (xs : List ℕ) (a : Plan) (ss : Schema) (q : Query) → 1 ≤ length xs → PlansFor (from 1 xs) 0 a ss q → PlansFor xs 1 (plan_moved a) ss q
plans_on xs a ss q l r =
    record {
      many_types = r.many_types;
      schema = stands_on (many types a.types) xs 1 4 5 ss l refl r.schema;
      query = stands_on queries xs 1 a.query_at (1 + a.query_at) q l refl r.query;
    }

-- a request, by its tag and what was read after it
module _ (xs : List ℕ) (typed : (j : ℕ) → Fits w8 (slice_index xs j)) (n : 0 < length xs) where
  pub ask_told : (a : Ask) (e : ℕ) → slice_index xs 0 ≡ 0 → ReadAs ask_load (from 1 xs) e (λ l. AsksFor (from 1 xs) 0 a l.0 l.1.0 l.1.1.0 l.1.1.1) → ReadAs requests xs (1 + e) (TellsRequest xs (ToAsk (ask_moved a)))
  ask_told a e t r =
      let l = r.thing in
      record { thing = _; begins = request_begins xs typed 0 e (1 + e) l n t r.begins refl; says = (l.0, l.1.0, l.1.1.0, l.1.1.1, refl, asks_on xs a l.0 l.1.0 l.1.1.0 l.1.1.1 n r.says) }

  pub plan_told : (p : Plan) (e : ℕ) → slice_index xs 0 ≡ 1 → ReadAs plan_load (from 1 xs) e (λ l. PlansFor (from 1 xs) 0 p l.0 l.1) → ReadAs requests xs (1 + e) (TellsRequest xs (ToPlan (plan_moved p)))
  plan_told p e t r =
      let l = r.thing in
      record { thing = _; begins = request_begins xs typed 1 e (1 + e) l n t r.begins refl; says = (l.0, l.1, refl, plans_on xs p l.0 l.1 n r.says) }

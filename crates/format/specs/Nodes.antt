-- What the code's nodes say of heads and requests.
use Rattle.std.specs.Prelude.{◌≡◌, ℕ, ◌+◌, ◌^◌, ◌<◌, ◌≤◌, ◌⊎◌, List, [], ◌∷◌, ◌++◌, length, drop, ◌≢◌}
use Rattle.query.specs.Data.{Name, Data}
use Rattle.query.specs.Query.{Op2, equal, and, or, plus, less, join_bags, join_recs, within, Op1, not_so, in_bag, flat, count, sum, distinct, dot, as_field, without, project, Ty, Query, Tables}
use Rattle.query.specs.Types.{Schema}
use Rattle.format.specs.Coding.{Coding, number, many, counted, both_of}
use Rattle.format.specs.Wire.{write_ty, types, data_of, queries, Request, to_ask, to_plan, requests}
use Rattle.format.specs.Heads.{DataHead, unit_h, num_h, truth_h, text_h, bag_h, rec_h, left_h, right_h, TyHead, unit_t, num_t, truth_t, text_t, bag_t, rec_t, either_t, QueryHead, table_q, it_q, env_q, just_q, two_q, one_q, each_q, keep_q, product_q, matched_q, default_q, left_q, right_q, either_q, then_q, with_env_q, write_query_head, FitsQueryHead}
use Rattle.format.specs.Reading.{ReadAs}
use Rattle.format.specs.declared.node.DataNode.{DataNode}
use Rattle.format.specs.declared.node.DataNode.TheVariants as dn
use Rattle.format.specs.declared.node.TypeNode.{TypeNode}
use Rattle.format.specs.declared.node.TypeNode.TheVariants as tn
use Rattle.format.specs.declared.node.Binary.{Binary}
use Rattle.format.specs.declared.node.Binary.TheVariants as bo
use Rattle.format.specs.declared.node.Unary.{Unary}
use Rattle.format.specs.declared.node.Unary.TheVariants as uo
use Rattle.format.specs.declared.node.QueryNode.{QueryNode}
use Rattle.format.specs.declared.node.QueryNode.TheVariants as qn
use Rattle.format.specs.declared.node.Ask.{Ask}
use Rattle.format.specs.declared.node.Plan.{Plan}
use Rattle.format.specs.declared.node.Request.{Request as Node}
use Rattle.format.specs.declared.node.Request.TheVariants as rn

-- a head was read: the node tells which, and how many parts follow it
abbrev pub NodeRead : (H : Coding) → (H.T → ℕ) → {N : Type 0} → (N → H.T → Type 0) → List ℕ → N → ℕ → ℕ → Type 0
NodeRead H arity Tells xs node parts e = ReadAs H xs e (λ h. Tells node h × (parts ≡ arity h) × (parts < 2 ^ 32))

abbrev pub TellsData : DataNode → DataHead → Type 0
TellsData dn.Nothing h = h ≡ unit_h
TellsData (dn.Number n) h = h ≡ num_h n
TellsData (dn.Truth b) h = h ≡ truth_h b
TellsData (dn.Text n) h = (t : List ℕ) × (h ≡ text_h t) × (length t ≡ n)
TellsData (dn.Bag k) h = h ≡ bag_h k
TellsData (dn.Record k) h = (ns : List Name) × (h ≡ rec_h ns) × (length ns ≡ k)
TellsData dn.Left h = h ≡ left_h
TellsData dn.Right h = h ≡ right_h

abbrev pub TellsType : TypeNode → TyHead → Type 0
TellsType tn.Nothing h = h ≡ unit_t
TellsType tn.Number h = h ≡ num_t
TellsType tn.Truth h = h ≡ truth_t
TellsType tn.Text h = h ≡ text_t
TellsType tn.Bag h = h ≡ bag_t
TellsType (tn.Record k) h = (ns : List Name) × (h ≡ rec_t ns) × (length ns ≡ k)
TellsType tn.Either h = h ≡ either_t

abbrev pub op_2 : Binary → Op2
op_2 bo.Equal = equal
op_2 bo.And = and
op_2 bo.Or = or
op_2 bo.Plus = plus
op_2 bo.Less = less
op_2 bo.JoinBags = join_bags
op_2 bo.JoinRecords = join_recs
op_2 bo.Within = within

-- an operator by a name of so many bytes
abbrev pub ByName : (Name → Op1) → ℕ → Op1 → Type 0
ByName f k o = (n : Name) × (o ≡ f n) × (length n ≡ k)

abbrev pub IsOp1 : Unary → Op1 → Type 0
IsOp1 uo.Not o = o ≡ not_so
IsOp1 uo.InBag o = o ≡ in_bag
IsOp1 uo.Flat o = o ≡ flat
IsOp1 uo.Count o = o ≡ count
IsOp1 uo.Sum o = o ≡ sum
IsOp1 uo.Distinct o = o ≡ distinct
IsOp1 (uo.Dot k) o = ByName dot k o
IsOp1 (uo.AsField k) o = ByName as_field k o
IsOp1 (uo.Without k) o = ByName without k o
IsOp1 (uo.Only k) o = (ns : List Name) × (o ≡ project ns) × (length ns ≡ k)

abbrev pub TellsQuery : QueryNode → QueryHead → Type 0
TellsQuery (qn.Table n) h = h ≡ table_q n
TellsQuery qn.It h = h ≡ it_q
TellsQuery qn.Env h = h ≡ env_q
TellsQuery (qn.Just k) h = (t : Ty) × (d : Data) × (h ≡ just_q t d) × (length (write_ty t) ≡ k)
TellsQuery (qn.Two o) h = h ≡ two_q (op_2 o)
TellsQuery (qn.One u) h = (o : Op1) × (h ≡ one_q o) × IsOp1 u o
TellsQuery qn.Each h = h ≡ each_q
TellsQuery qn.Keep h = h ≡ keep_q
TellsQuery qn.Product h = h ≡ product_q
TellsQuery (qn.Matched j k) h = (m : Name) × (n : Name) × (h ≡ matched_q m n) × (length m ≡ j) × (length n ≡ k)
TellsQuery qn.Default h = h ≡ default_q
TellsQuery (qn.OnLeft k) h = (t : Ty) × (h ≡ left_q t) × (length (write_ty t) ≡ k)
TellsQuery (qn.OnRight k) h = (t : Ty) × (h ≡ right_q t) × (length (write_ty t) ≡ k)
TellsQuery qn.Either h = h ≡ either_q
TellsQuery qn.Then h = h ≡ then_q
TellsQuery qn.WithEnv h = h ≡ with_env_q

-- a head that is its tag alone
pub record PlainHead (tag : ℕ) (node : QueryNode) : Type 0 where
  pub head : QueryHead
  pub fits : FitsQueryHead head
  pub written : write_query_head head ≡ tag ∷ []
  pub tells : TellsQuery node head

-- a tag of no operator without a name
abbrev pub NotOperator : ℕ → Type 0
NotOperator t = (t < 4) ⊎ (18 ≤ t)

-- a tag that no head is alone: it has something of its own after it, or there is none
abbrev pub NotPlain : ℕ → Type 0
NotPlain t = (t ≢ 0) → (t ≢ 3) → (t ≢ 18) → (t ≢ 19) → (t ≢ 20) → (t ≢ 21) → (t ≢ 25) → (t ≢ 27) → (t ≢ 28) → 32 ≤ t

-- a thing stands at a place, and something comes after it
pub record Stands (S : Coding) (xs : List ℕ) (at : ℕ) (x : S.T) : Type 0 where
  pub within : at ≤ length xs
  pub rest : List ℕ
  pub is : drop at xs ≡ S.write x ++ rest

-- what follows the tag of a request to ask, and of one to plan
abbrev pub ask_tail : Coding
ask_tail = both_of queries (number 8)

abbrev pub ask_body : Coding
ask_body = both_of (counted data_of) ask_tail

abbrev pub ask_load : Coding
ask_load = both_of (counted types) ask_body

abbrev pub plan_load : Coding
plan_load = both_of (counted types) queries

-- what a node says of a request, with the places counted from a byte on
pub record AsksFor (xs : List ℕ) (from : ℕ) (a : Ask) (ss : Schema) (ts : Tables) (q : Query) (w : ℕ) : Type 0 where
  pub many_types : length ss ≡ a.types
  pub schema : Stands (many types a.types) xs (from + 4) ss
  pub many_tables : length ts ≡ a.tables
  pub tables : Stands (many data_of a.tables) xs a.tables_at ts
  pub query : Stands queries xs a.query_at q
  pub work : a.work ≡ w

pub record PlansFor (xs : List ℕ) (from : ℕ) (p : Plan) (ss : Schema) (q : Query) : Type 0 where
  pub many_types : length ss ≡ p.types
  pub schema : Stands (many types p.types) xs (from + 4) ss
  pub query : Stands queries xs p.query_at q

abbrev pub TellsRequest : List ℕ → Node → Request → Type 0
TellsRequest xs (rn.ToAsk a) r = (ss : Schema) × (ts : Tables) × (q : Query) × (w : ℕ) × (r ≡ to_ask ss ts q w) × AsksFor xs 1 a ss ts q w
TellsRequest xs (rn.ToPlan p) r = (ss : Schema) × (q : Query) × (r ≡ to_plan ss q) × PlansFor xs 1 p ss q

-- all of the bytes are a request, of which the node tells
pub record Requested (xs : List ℕ) (n : Node) : Type 0 where
  pub request : Request
  pub fits : requests.Fits request
  pub is : xs ≡ requests.write request
  pub tells : TellsRequest xs n request

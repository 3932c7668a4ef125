-- Queries by how many parts they have, and where these begin.
use Rattle.std.specs.Prelude.{◌≡◌, ℕ, ◌+◌, ◌<◌, ◌≤◌, List, ◌++◌, length}
use Rattle.query.specs.Query.{Query, table, it, env, just, two, one, each, keep, product, matched, default, as_left, as_right, either, then, with_env}
use Rattle.format.specs.Wire.{write_query, FitsQuery}
use Rattle.format.specs.declared.node.QueryNode.{QueryNode}
use Rattle.format.specs.declared.node.QueryNode.TheVariants as qn
use Rattle.guide.specs.Guide.{first_part, last_part, Guided}
use Rattle.format.specs.Lists.{from}
use Rattle.literals.specs.declared.step.Part.{Part}
use Rattle.literals.specs.declared.step.Kind.{Kind}
use Rattle.literals.specs.declared.step.Kind.TheVariants as kd
use Rattle.literals.specs.declared.step.Step.{Step}
use Rattle.literals.specs.declared.step.Step.TheVariants as st

abbrev pub kind_of : QueryNode → Kind
kind_of (qn.Table n) = kd.Bare
kind_of qn.It = kd.Bare
kind_of qn.Env = kd.Bare
kind_of (qn.Just k) = kd.Written
kind_of (qn.Two o) = kd.Two
kind_of (qn.One u) = kd.One
kind_of qn.Each = kd.Two
kind_of qn.Keep = kd.Two
kind_of qn.Product = kd.Two
kind_of (qn.Matched j k) = kd.Two
kind_of qn.Default = kd.Two
kind_of (qn.OnLeft k) = kd.One
kind_of (qn.OnRight k) = kd.One
kind_of qn.Either = kd.Two
kind_of qn.Then = kd.Two
kind_of qn.WithEnv = kd.Two

abbrev pub kind_q : Query → Kind
kind_q (table n) = kd.Bare
kind_q it = kd.Bare
kind_q env = kd.Bare
kind_q (just t d) = kd.Written
kind_q (two o p q) = kd.Two
kind_q (one o q) = kd.One
kind_q (each p q) = kd.Two
kind_q (keep p q) = kd.Two
kind_q (product p q) = kd.Two
kind_q (matched m n p q) = kd.Two
kind_q (default p q) = kd.Two
kind_q (as_left t q) = kd.One
kind_q (as_right t q) = kd.One
kind_q (either p q) = kd.Two
kind_q (then p q) = kd.Two
kind_q (with_env p q) = kd.Two

-- a query stands in front of some bytes, with a guide that is right for it from a place on
pub record Here (xs g : List ℕ) (at : ℕ) (q : Query) : Type 0 where
  pub rest : List ℕ
  pub fits : FitsQuery q
  pub is : xs ≡ write_query q ++ rest
  pub guided : Guided g at q
  pub long : at + length (write_query q) ≤ length g

-- Of any bytes: a step forward, and no further than they go.
abbrev pub StepInside : ℕ → ℕ → ℕ → Step → Type 0
StepInside len room at st.Bare = Unit {0}
StepInside len room at (st.Written last) = (1 ≤ last) × (last ≤ len)
StepInside len room at (st.One first) = (1 ≤ first) × (first ≤ len) × (at < room)
StepInside len room at (st.Two first last) = (1 ≤ first) × (first ≤ last) × (last ≤ len) × (at < room)

abbrev pub TellsStep : Step → Query → Type 0
TellsStep st.Bare q = kind_q q ≡ kd.Bare
TellsStep (st.Written last) q = (kind_q q ≡ kd.Written) × (last ≡ last_part q)
TellsStep (st.One first) q = (kind_q q ≡ kd.One) × (first ≡ first_part q)
TellsStep (st.Two first last) q = (kind_q q ≡ kd.Two) × (first ≡ first_part q) × (last ≡ last_part q)

-- whichever query stands there, the step tells where its parts begin
pub record Steps (xs g : List ℕ) (at : ℕ) (s : Step) : Type 0 where
  pub tells : (q : Query) → Here xs g at q → TellsStep s q

-- the part that begins so many bytes further on
pub record PartFrom (xs g : List ℕ) (at by : ℕ) (p : Part) : Type 0 where
  pub query : p.query.now ≡ from by xs
  pub guide : p.guide.now ≡ g
  pub place : p.at ≡ at + by

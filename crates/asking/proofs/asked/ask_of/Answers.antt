use Rattle.std.proofs.Common.{◌≡◌, ℕ, ◌-◌, ◌≤◌, List, ◌++◌, length, take, drop, Some, None, Err, sym, refl, ap, ◌∙◌, subst, arith, rules}
use Rattle.std.proofs.lemmas.List.{take_rest}
use Rattle.operators.specs.declared.came.Stop.TheVariants.{NoRoom}
use Rattle.values.specs.Lent.{all}
use Rattle.literals.specs.Literals.{Literals}
use Rattle.asking.specs.Passed.{LoadedUp}
use Rattle.asking.specs.Asked.{Told}
use Rattle.asking.proofs.Bound.{enough_loading}
use Rattle.asking.proofs.Standing.{ready_of, told_of}
use Rattle.asking.proofs.asked.ask_of.Goals as goal

pub returns-in_err-literals : goal.returns-in_err-literals
returns-in_err-literals c =
    let e : c.load_all.result ≡ None = search rules in
    let loads = rw e at (c.load_all.ensures.means refl) in
    let stopped : c.from_residual.result ≡ Err NoRoom = search rules in
    rw stopped
    (record { means = λ p. let n = loads.means p in enough_loading p.schema p.tables p.query c.args.ask.work (length c.args.lent.now) (omega (arith, n, c.load_all.ensures.long)) })

pub worked_out-requires : goal.worked_out-requires
worked_out-requires c =
    let f : c.load_all.result ≡ Some c.in_ok-literals.literals = search rules in
    let loads = rw f at (c.load_all.ensures.means refl) in
    let p = c.requires.passed in
    let m : List ℕ = c.split_at_mut-kept.result.0.now ++ c.split_at_mut-kept.result.1.now in
    let x : Literals = record { start = c.in_ok-literals.literals; top = c.load_all.new.memory.top } in
    let e : all c.load_all.new.memory ≡ m = ap (λ k. k ++ c.load_all.new.memory.made.now) c.load_all.ensures.frozen ∙ c.split_at_mut-kept.ensures.value in
    let u : LoadedUp c.args.bytes.now p.tables p.query c.args.ask.tables c.load_all.new.marks m x
    = subst (λ (z : List ℕ). LoadedUp c.args.bytes.now p.tables p.query c.args.ask.tables c.load_all.new.marks z x) e (loads.means p) in
    ready_of c.args.bytes.now c.args.guide.now c.args.ask p c.load_all.new.marks m _ x u (sym (take_rest c.args.bytes.now c.args.ask.query_at)) (omega (arith, c.load_all.auto.marks, c.requires.marks))

pub returns : goal.returns
returns c =
    let f : c.load_all.result ≡ Some c.in_ok-literals.literals = search rules in
    let loads = rw f at (c.load_all.ensures.means refl) in
    record {
      means = λ p.
          let m : List ℕ = c.split_at_mut-kept.result.0.now ++ c.split_at_mut-kept.result.1.now in
          let x : Literals = record { start = c.in_ok-literals.literals; top = c.load_all.new.memory.top } in
          let e : all c.load_all.new.memory ≡ m = ap (λ k. k ++ c.load_all.new.memory.made.now) c.load_all.ensures.frozen ∙ c.split_at_mut-kept.ensures.value in
          let u : LoadedUp c.args.bytes.now p.tables p.query c.args.ask.tables c.load_all.new.marks m x
          = subst (λ (z : List ℕ). LoadedUp c.args.bytes.now p.tables p.query c.args.ask.tables c.load_all.new.marks z x) e (loads.means p) in
          let q : drop c.args.ask.query_at c.args.bytes.now ≡ take (length c.args.bytes.now - c.args.ask.query_at) (drop c.args.ask.query_at c.args.bytes.now) = sym (take_rest c.args.bytes.now c.args.ask.query_at) in
          let long : 73728 ≤ length c.load_all.new.marks = omega (arith, c.load_all.auto.marks, c.requires.marks) in
          let l : length m ≡ length c.args.lent.now = ap length (sym e) ∙ c.load_all.ensures.long in
          subst (λ (n : ℕ). Told p.schema p.tables p.query c.args.ask.work n c.worked_out.result) l
          (told_of c.args.bytes.now c.args.guide.now c.args.ask p c.load_all.new.marks m _ x u q long c.args.ask.work c.worked_out.result
          (c.worked_out.ensures.means (ready_of c.args.bytes.now c.args.guide.now c.args.ask p c.load_all.new.marks m _ x u q long)));
    }

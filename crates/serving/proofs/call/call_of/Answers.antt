use Rattle.std.proofs.Common.{◌≡◌, ℕ, true, false, Some, string_bytes, codes, sym, ◌∙◌, arith, rules}
use Rattle.std.proofs.lemmas.Result.{MatchResult-weaker}
use Rattle.std.proofs.lemmas.Bool.Decides.{Decides-eqb}
use Rattle.std.proofs.lemmas.Slice.Eq.{slice_eq-Decides}
use Rattle.serving.proofs.Arguments.{with_option, no_option, no_file_with, no_file}
use Rattle.serving.proofs.call.call_of.Goals as goal

pub returns-then-eq : goal.returns-then-eq
returns-then-eq c =
    let word = c.in_ok-word.word in
    let first = c.args.first in
    let is : first ≡ Some word = search rules in
    let second = c.args.second in
    let third = c.args.third in
    let told = slice_eq-Decides Decides-eqb c.as_str.result.now (codes "--work") c.eq.result c.eq.ensures in
    let work : string_bytes word ≡ codes "--work" = sym c.as_str.ensures.value ∙ told.0 c.if-eq.true in
    MatchResult-weaker c.call_for.result c.call_for.ensures
    (λ x p. with_option (λ s. string_bytes s) first second third word is work x.work x.file p.0 p.1)
    (λ e p. (p.0, no_file_with (λ s. string_bytes s) first second third word is work p.1))

pub returns : goal.returns
returns c =
    let word = c.in_ok-word.word in
    let first = c.args.first in
    let is : first ≡ Some word = search rules in
    let second = c.args.second in
    let third = c.args.third in
    let told = slice_eq-Decides Decides-eqb c.as_str.result.now (codes "--work") c.eq.result c.eq.ensures in
    let plain : string_bytes word ≡ codes "--work" → ⊥ = λ h. (let t : c.eq.result ≡ true = told.1 (c.as_str.ensures.value ∙ h) in let f : c.eq.result ≡ false = c.if-eq.false in let z : ◌≡◌ {A = ℕ} 0 1 = cc in omega arith) in
    MatchResult-weaker c.call_for-2.result c.call_for-2.ensures
    (λ x p. no_option (λ s. string_bytes s) first second third word is plain x.work x.file p.0 p.1)
    (λ e p. (p.0, no_file (λ s. string_bytes s) first second third word is plain p.1))

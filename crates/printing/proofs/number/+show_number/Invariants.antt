use Rattle.printing.proofs.number.+show_number.Given as goal

abbrev pub decreases-show_number : goal.decreases-show_number
decreases-show_number l = l.n

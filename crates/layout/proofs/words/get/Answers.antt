use Rattle.layout.proofs.WordLaws.{word_is_sum, twos_complement}
use Rattle.layout.proofs.Sameness.{word_alike}
use Rattle.layout.proofs.words.get.Goals as goal

pub returns-clause-sum : goal.returns-clause-sum
returns-clause-sum g c = word_is_sum

pub returns-clause-alike : goal.returns-clause-alike
returns-clause-alike g c = word_alike

pub returns-clause-complement : goal.returns-clause-complement
returns-clause-complement g c = twos_complement

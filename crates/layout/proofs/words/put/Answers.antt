use Rattle.layout.proofs.WordLaws.{written_is_read, others_stay, signed_is_read}
use Rattle.layout.proofs.words.put.Goals as goal

pub returns-clause-read_back : goal.returns-clause-read_back
returns-clause-read_back g c = written_is_read

pub returns-clause-others : goal.returns-clause-others
returns-clause-others g c = others_stay

pub returns-clause-signed : goal.returns-clause-signed
returns-clause-signed g c = signed_is_read

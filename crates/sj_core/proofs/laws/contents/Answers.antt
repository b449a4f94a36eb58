use Rattle.sj_core.proofs.Replaying.{Step-keeps_content}
use Rattle.sj_core.proofs.laws.contents.Goals as goal

pub returns : goal.returns
returns c = λ eq has p m s A e h lawful holds may. Step-keeps_content p m h.proper h.machine eq has lawful s A e h.coherent holds may

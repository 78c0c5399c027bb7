use Rattle.misp_api.proofs.HttpTexts.{failed_text, lost_text}
use Rattle.misp_api.proofs.telling.stop_text.Goals as goal

pub returns-in-Failed-clause-text : goal.returns-in-Failed-clause-text
returns-in-Failed-clause-text c = rw c.in-Failed.is failed_text

pub returns-in-NoMemory-clause-text : goal.returns-in-NoMemory-clause-text
returns-in-NoMemory-clause-text c = rw c.in-NoMemory.is lost_text

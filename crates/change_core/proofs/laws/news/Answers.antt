use Rattle.change_core.proofs.News.{Decides-is_news, is_news-members}
use Rattle.change_core.proofs.laws.news.Goals as goal

pub returns-clause-exceeds_all : goal.returns-clause-exceeds_all
returns-clause-exceeds_all c = Decides-is_news

pub returns-clause-by_members : goal.returns-clause-by_members
returns-clause-by_members c = is_news-members
